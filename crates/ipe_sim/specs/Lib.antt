pub mod Draws
pub mod Roll
