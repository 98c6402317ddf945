pub mod Area
pub mod Entries
