-- The laws of a body, and of putting one into a buffer.
pub mod Lengths
pub mod Parts
pub mod Joined
pub mod Body
pub mod Putting
pub mod Blocks
