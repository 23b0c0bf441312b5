pub mod Decoding
pub mod Encoded
pub mod Formats
pub mod Map
pub mod Opcodes
pub mod Second
pub mod Sides
pub mod Width
