-- The table of positions, and what the steps by it write.
pub mod Places
pub mod Steps
