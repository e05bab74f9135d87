-- The text of a query, and what reading one answers.
pub mod Reading
