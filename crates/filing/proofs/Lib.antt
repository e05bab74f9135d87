-- How long the parts of a register's file are, and what is copied into them.
pub mod Lengths
pub mod Copied
