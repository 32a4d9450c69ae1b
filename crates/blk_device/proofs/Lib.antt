pub mod Filling
pub mod Looking
pub mod Reading
pub mod Needs
