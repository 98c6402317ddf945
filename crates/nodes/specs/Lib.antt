pub mod Atoms
pub mod Table
