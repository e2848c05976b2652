pub mod Meaning
pub mod Telling
pub mod Library
pub mod Soundness
pub mod Standings
