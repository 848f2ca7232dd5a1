pub mod Lanes
pub mod Lines
pub mod Outboxes
pub mod Printing
pub mod Streams
