pub mod Cuts
pub mod Decimals
pub mod Steps
mod Keys
pub mod Numbers
pub mod Places
pub mod Spells
