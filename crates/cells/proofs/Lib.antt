-- What an opened file says of a row.
pub mod Rows
