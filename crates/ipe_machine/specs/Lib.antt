pub mod Refusals
pub mod Policies
pub mod Change
pub mod Answer
pub mod Machine
pub mod Run
pub mod Law
pub mod Epochs
