pub mod Searches
pub mod Jumps
