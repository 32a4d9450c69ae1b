pub mod Contents
pub mod Planned
