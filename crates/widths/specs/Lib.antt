-- What asking for the widths of a register does.
pub mod Widths
