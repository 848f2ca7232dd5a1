pub mod Chains
pub mod Fits
pub mod Frames
pub mod Insertions
pub mod Maps
pub mod Removals
pub mod Walks
