-- The laws of sweeps and of rows taken out.
pub mod TakenOut
