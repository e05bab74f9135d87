-- From a table to the answer.
pub mod Replies
