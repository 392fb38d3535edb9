pub mod Given
pub mod Turns
pub mod Outside
pub mod Outcomes
pub mod Promises
