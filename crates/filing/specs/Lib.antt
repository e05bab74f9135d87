-- The file of a register.
pub mod Layout
pub mod Steps
