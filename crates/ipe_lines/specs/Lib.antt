pub mod Asked
pub mod Files
pub mod Told
pub mod Spelled
pub mod Events
