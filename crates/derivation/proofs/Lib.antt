pub mod ChoiceLaws
pub mod ApplyLaws
pub mod DerivationLaws
