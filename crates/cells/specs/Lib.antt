-- A row's bytes in a column.
pub mod Gathered
