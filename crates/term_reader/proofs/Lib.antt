pub mod Reading
pub mod Building
pub mod Substitution
