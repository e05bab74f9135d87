-- Which numbers each call takes.
pub mod Requests
