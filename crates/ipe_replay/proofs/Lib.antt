pub mod Counting
pub mod DigestLemmas
pub mod Ending
pub mod Ends
pub mod Few
pub mod Running
pub mod Summing
