pub mod Images
pub mod Announced
pub mod ImageOpened
pub mod OneOpening
pub mod Results
pub mod ReadOnly
