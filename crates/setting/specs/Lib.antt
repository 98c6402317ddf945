pub mod Fixed
pub mod Setting
