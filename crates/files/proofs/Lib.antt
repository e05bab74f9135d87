-- What the answers of std say of a read.
pub mod Signs
