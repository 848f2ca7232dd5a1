pub mod Kept
pub mod Untold
