-- The list of the rows whose bit is set.
pub mod RowList
