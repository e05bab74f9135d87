-- The laws of a line of a query's text and of reading it.
pub mod Lines
pub mod Signs
pub mod ReadLines
