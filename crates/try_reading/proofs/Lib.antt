-- Laws on how a request is read.
pub mod Requests
