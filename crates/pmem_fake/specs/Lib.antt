pub mod CallHistory
pub mod Fakes
pub mod History
pub mod Replays
pub mod Sizes
