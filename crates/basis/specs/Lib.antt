-- Notions that every other crate speaks in.
pub mod Lists
pub mod Places
pub mod Refusals
pub mod Numbers
pub mod Buffers
pub mod Sweeps
