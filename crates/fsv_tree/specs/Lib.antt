pub mod Blocks
pub mod Descriptor
pub mod Kept
pub mod File
