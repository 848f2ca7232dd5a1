pub mod Rows
pub mod RequestFile
pub mod RequestText
