-- The laws of pieces.
pub mod Numbers
pub mod Writing
pub mod WholePiece
