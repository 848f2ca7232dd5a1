pub mod Counting
pub mod MayTry
pub mod Served
pub mod AfterOnce
pub mod Turns
pub mod Tries
