-- The laws of the table of positions, and of the steps by it.
pub mod TableRule
pub mod Ahead
pub mod ByteOfWord
pub mod Written
