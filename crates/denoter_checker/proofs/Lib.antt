pub mod DomainSteps
pub mod Walks
