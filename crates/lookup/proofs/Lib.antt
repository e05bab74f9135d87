-- The laws of looking up.
pub mod LookingUp
pub mod SingleReply
