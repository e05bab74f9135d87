-- What one write does.
pub mod Putting
