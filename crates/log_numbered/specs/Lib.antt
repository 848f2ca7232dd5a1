pub mod Arrays
pub mod Backs
pub mod BundleLog
pub mod Keeping
pub mod KeptBundles
pub mod LogCalls
pub mod RunLog
