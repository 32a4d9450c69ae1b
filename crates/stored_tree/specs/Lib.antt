pub mod Stored
pub mod Checked
