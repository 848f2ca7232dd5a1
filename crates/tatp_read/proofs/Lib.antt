pub mod Forwarding
pub mod Lookups
pub mod Replies
