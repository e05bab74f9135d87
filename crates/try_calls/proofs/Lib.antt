-- Laws on the numbers that a call takes, and on the word that asks for it.
pub mod Requests
pub mod Words
