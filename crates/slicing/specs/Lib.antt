-- Codes made into slices.
pub mod Body
pub mod Putting
