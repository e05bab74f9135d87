-- What is written is looked up again.
pub mod ReadBack
