-- What the steps of printing a listing answer.
pub mod Printing
