pub mod Weights
pub mod Settling
