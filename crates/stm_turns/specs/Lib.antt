pub mod Holding
pub mod Told
pub mod Turns
pub mod Gathered
pub mod InFront
pub mod Bundles
pub mod Pump
pub mod Starts
