-- Looking codes up by row.
pub mod LookingUp
pub mod Steps
