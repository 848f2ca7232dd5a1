pub mod Histories
pub mod Picks
pub mod Replays
