pub mod Replay
pub mod Asked
pub mod Table
pub mod Shell
pub mod Sim
pub mod Answers
