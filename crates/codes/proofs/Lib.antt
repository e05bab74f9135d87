-- The laws of codes and their bytes.
pub mod Width
pub mod Big
pub mod RoundTrip
pub mod Compare
pub mod Pads
pub mod FirstByte
pub mod LowHigh
