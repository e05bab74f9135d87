-- The laws of the listing.
pub mod FoundLines
pub mod FoundListing
pub mod Inputs
pub mod SingleReply
pub mod Lengths
