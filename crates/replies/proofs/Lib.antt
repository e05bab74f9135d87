-- The laws of replies.
pub mod Behind
