pub mod Kinds
pub mod Located
pub mod Phones
pub mod Reads
pub mod Serves
