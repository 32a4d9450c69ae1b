pub mod Table
pub mod Zeros
pub mod Spelled
pub mod Sound
pub mod Written
pub mod Counts
pub mod Files
pub mod Digests
