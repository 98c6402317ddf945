pub mod Headers
pub mod Packages
