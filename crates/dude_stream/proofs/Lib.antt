mod Giving
mod Interleaving
mod Receiving
mod Rests
pub mod Sending
mod Streaming
