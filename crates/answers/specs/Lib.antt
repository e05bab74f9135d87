-- What is shown of the answer of a call that writes so many elements, and what the buffer then holds.
pub mod Answers
