-- The listing, what is written of what was found, and what the program prints of its inputs.
pub mod Listing
pub mod Found
pub mod Inputs
