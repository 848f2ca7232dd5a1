pub mod Calls
pub mod Facilities
mod Halves
pub mod InOrder
pub mod Numbered
pub mod NumbersLemmas
pub mod PopulationInOrder
pub mod PrintedOrder
pub mod Retained
pub mod Rising
pub mod Rows
pub mod Run
pub mod SameElements
pub mod Sequential
pub mod WorkedReplies
mod CallHalves
