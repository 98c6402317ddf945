pub mod Steps
pub mod Bounds
