-- How a request is read.
pub mod Requests
