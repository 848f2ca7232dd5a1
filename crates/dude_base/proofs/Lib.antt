pub mod Overwriting
pub mod Joining
pub mod WriteLists
pub mod ChangedLists
pub mod SizesWithin
