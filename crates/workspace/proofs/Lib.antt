pub mod Frames
pub mod Room
