pub mod Lines
pub mod Acts
pub mod Basis
pub mod Standing
pub mod Phases
pub mod Seats
pub mod Gate
pub mod Told
