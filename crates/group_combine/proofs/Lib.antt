pub mod KeptRows
pub mod LastWrites
pub mod Effects
