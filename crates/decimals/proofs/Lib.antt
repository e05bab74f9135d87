-- The laws of decimals and of reading one.
pub mod Decimals
pub mod Words
pub mod Places
pub mod Numbers
