pub mod Forwarding
pub mod Kinds
pub mod Lookups
