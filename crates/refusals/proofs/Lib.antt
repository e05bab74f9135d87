-- What is known of the numbers of refusals.
pub mod Numbered
