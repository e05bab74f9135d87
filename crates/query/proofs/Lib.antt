-- The laws of queries.
pub mod Slots
