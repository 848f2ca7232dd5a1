pub mod Faults
pub mod Found
pub mod Header
pub mod PlainImages
pub mod Recovered
pub mod Replays
pub mod Texts
