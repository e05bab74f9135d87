-- A piece of a long list of bytes in a lent buffer.
pub mod Pieces
