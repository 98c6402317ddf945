pub mod ScanningLaws
pub mod ReadingLaws
