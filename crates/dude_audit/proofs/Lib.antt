mod Along
mod Files
pub mod Law
mod Necessary
mod OneThreadRuns
mod OneReason
pub mod OneVerdict
mod Orders
mod Passing
mod Printing
mod Replies
mod Ruled
mod Shown
mod Sorted
mod Blank
mod Claimed
pub mod Lined
pub mod Numerals
pub mod Texts
mod Whole
