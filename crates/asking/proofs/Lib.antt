-- The laws of a query held to a file.
pub mod Sizes
pub mod Judging
pub mod Asked
pub mod Outcomes
pub mod SingleReply
