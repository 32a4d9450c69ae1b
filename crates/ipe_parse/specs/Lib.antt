pub mod Tokens
pub mod Lines
pub mod Defaults
pub mod Given
pub mod Reading
pub mod Walk
pub mod Reads
pub mod FirstFault
