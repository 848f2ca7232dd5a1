pub mod Announcing
pub mod Opens
pub mod Faults
pub mod Openings
pub mod ImageRead
