pub mod Counted
pub mod Ends
pub mod Run
