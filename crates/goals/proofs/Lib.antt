pub mod Judging
pub mod Room
pub mod Settling
