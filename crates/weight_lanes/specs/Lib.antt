pub mod Answers
pub mod Lanes
pub mod Places
