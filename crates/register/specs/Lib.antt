-- What the rows of a register's file are, and what opening it answers.
pub mod Cells
pub mod Answers
pub mod Opening
pub mod Columns
