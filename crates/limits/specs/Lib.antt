-- How large everything may be.
pub mod Limits
