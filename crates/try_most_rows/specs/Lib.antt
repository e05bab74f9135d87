-- The file that is made.
pub mod Made
