-- The laws of columns and rows that fit, and of judging them.
pub mod Columns
pub mod Holding
pub mod PartByPart
pub mod AtOnce
