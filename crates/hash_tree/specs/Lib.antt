pub mod Chunks
pub mod Hash
pub mod Tree
pub mod Shape
pub mod Path
pub mod Law
