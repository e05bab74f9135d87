-- The Hebe schedule: which slices of a segment count for a test, and which rows are found.
pub mod Machine
pub mod Segments
pub mod Schedule
pub mod Comparisons
