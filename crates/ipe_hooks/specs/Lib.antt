pub mod Rulings
pub mod Hooks
pub mod Law
