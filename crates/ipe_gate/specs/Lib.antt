pub mod Slots
pub mod Seats
pub mod Claims
pub mod Switching
pub mod Placing
pub mod Meeting
pub mod Opening
pub mod Gathering
