pub mod Rows
pub mod Basics
