pub mod Persisted
pub mod Saving
