-- The bits of a result, the rows that they mark, and the set bits of a number.
pub mod Bits
pub mod Marked
pub mod SetBits
