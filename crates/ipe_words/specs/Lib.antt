pub mod Count
pub mod Source
pub mod Sink
pub mod Number
pub mod Memory
