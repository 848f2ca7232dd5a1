pub mod Digits
pub mod Zeros
pub mod NumbersReadBack
pub mod Joined
pub mod RecordRanges
pub mod FieldsReadBack
pub mod Drawn
pub mod Counting
pub mod Plain
mod DumpText
