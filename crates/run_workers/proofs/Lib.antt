pub mod NextDone
pub mod FirstShares
pub mod JobSteps
pub mod PassesJoined
pub mod JobsRun
pub mod JobsJoined
pub mod FilesServed
pub mod Sending
mod FirstLines
mod Places
mod JobsStreamed
