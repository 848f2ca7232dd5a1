pub mod Linking
pub mod Path
pub mod Shape
pub mod Tree
pub mod Walk
