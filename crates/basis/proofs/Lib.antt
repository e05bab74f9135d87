-- The laws of the notions in specs/.
pub mod Truth
pub mod Lists
pub mod Places
pub mod Refusals
pub mod Numbers
pub mod Buffers
pub mod Passing
pub mod Members
pub mod Runs
pub mod Those
pub mod Tables
pub mod SingleReply
pub mod Sweeps
pub mod FrontSweeps
