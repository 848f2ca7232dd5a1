pub mod ReadLaws
pub mod WriteLaws
mod Pieces
mod Spans
