pub mod Distances
pub mod Elements
pub mod Pagers
pub mod Seen
