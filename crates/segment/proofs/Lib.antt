-- The laws of a segment and of the plan of a query.
pub mod Kept
pub mod ByNumber
pub mod Work
pub mod Progress
pub mod OpenRows
pub mod Ending
pub mod Parts
pub mod Stepping
pub mod Planning
