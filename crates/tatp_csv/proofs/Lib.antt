pub mod Fields
pub mod Left
pub mod Requests
pub mod Ranges
pub mod Lines
pub mod RoundTrip
