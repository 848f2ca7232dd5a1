pub mod Ranges
pub mod Seek
pub mod Table
pub mod Walk
