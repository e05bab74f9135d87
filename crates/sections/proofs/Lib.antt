-- A run of lines grows by one.
pub mod OneMore
