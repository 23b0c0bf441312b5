pub mod Blocks
pub mod Grammar
pub mod Images
pub mod Known
pub mod Order
pub mod Several
pub mod Turns
pub mod Written
