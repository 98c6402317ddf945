pub mod ConditionsLaws
pub mod PolicyLaws
