-- The settled examples hold.
pub mod Settled
