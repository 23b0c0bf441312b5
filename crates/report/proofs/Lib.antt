pub mod Adding
pub mod Hexes
