-- Codes and the widths of their columns: which fit.
pub mod Table
pub mod ManyAtOnce
