pub mod Codes
pub mod Facts
