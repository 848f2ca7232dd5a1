pub mod Flats
pub mod ReadSet
pub mod Sights
pub mod Sound
pub mod Steps
