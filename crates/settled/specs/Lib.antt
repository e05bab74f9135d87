-- The settled examples.
pub mod Questions
pub mod Registers
pub mod Table
