-- The promise of asking for widths.
pub mod SingleReply
