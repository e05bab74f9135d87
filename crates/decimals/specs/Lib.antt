-- Decimals without leading zeros, the bytes between them, and reading one.
pub mod Decimals
pub mod Reading
