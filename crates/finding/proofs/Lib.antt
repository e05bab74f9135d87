-- What is found is what the scan finds, and there is one such finding.
pub mod FoundRows
pub mod Outcomes
pub mod SingleReply
