-- The lines of a listing, and what is known where a row is written.
pub mod Lines
pub mod Steps
