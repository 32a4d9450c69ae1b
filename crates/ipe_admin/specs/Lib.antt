pub mod Agreement
pub mod Outcomes
pub mod Starting
pub mod Slots
pub mod Changes
