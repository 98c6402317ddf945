pub mod Moving
pub mod PathLaws
pub mod Assigning
