pub mod Words
pub mod Version
pub mod Statement
pub mod Policy
pub mod Evaluation
pub mod Request
pub mod Spelling
