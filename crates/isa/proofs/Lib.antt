pub mod Decoded
pub mod Inverse
pub mod Rows
pub mod Spelled
