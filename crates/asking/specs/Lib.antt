-- A query held to a file: its tests with their widths, the bytes and segments as the schedule sees them, and its refusals.
pub mod AtFile
pub mod Sizes
pub mod Refusals
pub mod Verdicts
pub mod Judged
