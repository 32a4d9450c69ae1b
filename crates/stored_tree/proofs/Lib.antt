mod Joined
pub mod Places
pub mod Walking
pub mod HeldTrees
pub mod Answering
pub mod Reading
