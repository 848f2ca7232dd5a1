pub mod Arrays
pub mod Frames
pub mod Pools
pub mod Records
