-- The standing of a row to each test, and the rows that are still in.
pub mod Standings
pub mod TakenOut
