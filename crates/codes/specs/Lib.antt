-- Codes, the slices that hold them, and how they compare byte by byte.
pub mod Width
pub mod Bytes
pub mod Pad
pub mod Order
