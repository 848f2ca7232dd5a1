pub mod Faults
pub mod Groups
pub mod MediumLaws
pub mod Listed
pub mod Reads
pub mod Rounds
pub mod Sights
pub mod Words
