-- The two calls of C and Rust that take a text.
pub mod Asked
