pub mod Kept
pub mod Walking
pub mod Reading
pub mod Found
