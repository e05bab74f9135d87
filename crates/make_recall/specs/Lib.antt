-- The pickups of the example register.
pub mod Pickups
