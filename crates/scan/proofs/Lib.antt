-- The laws of the scan.
pub mod SegmentSums
pub mod RowsSoFar
pub mod WithinBounds
pub mod AllRows
pub mod Outcomes
pub mod Accepting
pub mod LeftBits
pub mod ReorderedQuery
pub mod OneMoreTest
pub mod AloneTest
pub mod AgreeingFiles
pub mod CountBounds
pub mod FoundIsMeets
pub mod SingleReply
