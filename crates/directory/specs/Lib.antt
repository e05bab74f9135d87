-- What stands where in a register's file: its trailer, its directory, its body.
pub mod Layout
pub mod File
pub mod Trailer
pub mod Fitting
