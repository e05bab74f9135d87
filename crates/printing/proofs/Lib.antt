-- What is printed of what was taken, piece by piece.
pub mod Fronts
pub mod Pieces
