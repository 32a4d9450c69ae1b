pub mod Counts
pub mod Digests
pub mod Ends
pub mod Phases
pub mod Summary
