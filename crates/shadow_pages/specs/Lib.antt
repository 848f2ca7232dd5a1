pub mod PageMap
pub mod Pager
