-- The laws of the row list.
pub mod Outcomes
pub mod Rising
pub mod ListedRows
pub mod SingleReply
