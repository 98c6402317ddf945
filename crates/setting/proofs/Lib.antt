pub mod Fixing
pub mod Standing
