pub mod Writers
pub mod Serving
pub mod Law
pub mod WorkedArrays
pub mod Carrying
