-- The law of the calls by their C names.
pub mod SingleReply
