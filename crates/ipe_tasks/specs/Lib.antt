pub mod Refusals
pub mod Told
pub mod Lint
pub mod Measure
pub mod Tree
pub mod Asked
