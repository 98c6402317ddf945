pub mod Reading
pub mod Substitution
