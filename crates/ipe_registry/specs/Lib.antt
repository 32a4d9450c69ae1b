pub mod Entry
pub mod Step
pub mod Change
pub mod Parts
