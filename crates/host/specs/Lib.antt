pub mod Layout
pub mod Answers
