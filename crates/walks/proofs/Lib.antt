pub mod Advancing
pub mod PartLaws
pub mod WalkLaws
pub mod BranchLaws
pub mod Looping
