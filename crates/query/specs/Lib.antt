-- Tests, and what it means to meet one.
pub mod Tests
