pub mod Blocks
pub mod Tree
pub mod Words
pub mod Law
