pub mod AppendMakes
pub mod KeptBundles
pub mod Laid
pub mod RecordReads
pub mod Replayable
pub mod ScanReads
pub mod ScanSteps
pub mod ScanEnd
