pub mod Numerals
pub mod Meeting
pub mod Fronts
pub mod Parsed
pub mod Typed
pub mod Sheets
