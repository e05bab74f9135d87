-- What is found for a listing.
pub mod Finding
