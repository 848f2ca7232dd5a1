pub mod Causes
pub mod Entries
pub mod Filled
pub mod Filling
pub mod Indexed
pub mod Populated
