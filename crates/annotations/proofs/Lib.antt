pub mod Annotations
pub mod Tables
pub mod Facts
