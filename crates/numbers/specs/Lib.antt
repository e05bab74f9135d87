-- What is known of a number that was made of bytes.
pub mod OfBytes
