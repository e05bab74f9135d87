-- What reading an input whole answers.
pub mod Taking
