-- What the error of a write says.
pub mod Errors
