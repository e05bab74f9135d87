-- The schedule at a file and a query, and a segment scanned by it.
pub mod Steps
