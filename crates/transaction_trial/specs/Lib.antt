pub mod Fit
pub mod Turning
