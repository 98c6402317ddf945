pub mod Closed
pub mod Reckoned
