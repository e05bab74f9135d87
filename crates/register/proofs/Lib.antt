-- The laws of a register's file and of opening it.
pub mod Opening
pub mod PastTests
pub mod Fit
pub mod PassedOn
pub mod SingleReply
pub mod Body
