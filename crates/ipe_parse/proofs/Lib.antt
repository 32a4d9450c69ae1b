pub mod Properties
pub mod HeaderLemmas
pub mod DraftLemmas
pub mod SpokenLemmas
mod Steps
mod Spells
mod Digests
mod SpelledProperties
mod SpelledStatements
mod Defaults
mod KeptRules
pub mod Readings
mod Bytes
mod Values
mod Printings
pub mod Whole
mod FirstFaults
