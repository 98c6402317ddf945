pub mod PartLaws
pub mod PlanLaws
pub mod StepLaws
