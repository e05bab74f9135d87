-- The lines of a query's text, and what the steps that read one answer.
pub mod Lines
pub mod Steps
