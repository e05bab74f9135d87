-- The lines of a listing that come in runs.
pub mod Sections
pub mod Steps
