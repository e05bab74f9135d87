-- The file of a register, and what writing it answers.
pub mod Writing
