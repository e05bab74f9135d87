-- The numbers by which a refusal is shown.
pub mod Numbers
