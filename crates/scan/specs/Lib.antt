-- What a scan answers, by the schedule at a file and a query.
pub mod Refusals
pub mod Answers
pub mod Steps
