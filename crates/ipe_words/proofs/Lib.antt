pub mod Offering
pub mod ReadSoFar
