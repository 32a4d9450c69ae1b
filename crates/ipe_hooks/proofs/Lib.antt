pub mod Returning
pub mod Machines
