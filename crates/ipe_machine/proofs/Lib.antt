pub mod Runs
pub mod Entries
pub mod Kept
pub mod Answers
pub mod Epochs
