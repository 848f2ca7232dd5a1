pub mod Group
pub mod KeptGroup
pub mod Numbered
