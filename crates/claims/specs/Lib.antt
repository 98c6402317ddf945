pub mod Parts
pub mod Rules
pub mod Plan
pub mod Regions
