pub mod Bitwise
pub mod Exact
pub mod Extended
pub mod Halved
pub mod Quotients
pub mod Ranks
pub mod Signs
pub mod Turned
