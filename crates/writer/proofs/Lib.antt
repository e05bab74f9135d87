-- The laws of a written register and of writing it.
pub mod Writing
pub mod Fit
pub mod SingleReply
