pub mod Laid
pub mod Appends
pub mod Heads
pub mod Ring
pub mod Scan
pub mod Scanning
