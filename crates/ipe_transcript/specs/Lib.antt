pub mod Lines
pub mod Keys
pub mod Entries
pub mod Filing
pub mod Order
pub mod Text
