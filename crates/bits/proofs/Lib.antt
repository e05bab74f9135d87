-- The laws of a result's bits: packed, each by itself, and the rows that they mark.
pub mod Packed
pub mod EachBit
pub mod ByteByByte
pub mod SetBits
pub mod Words
pub mod LastByte
pub mod FitBits
pub mod FoundBits
