-- The replies of the calls, as numbers.
pub mod Replies
