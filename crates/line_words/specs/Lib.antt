pub mod Lines
pub mod WordIndex
pub mod Words
