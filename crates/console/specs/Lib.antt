pub mod Counts
pub mod Words
