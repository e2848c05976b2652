pub mod Unions
pub mod Forms
pub mod Weights
pub mod HeadsAndTails
pub mod Made
pub mod Literals
pub mod Laws
pub mod Entries
