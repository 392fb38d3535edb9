pub mod Files
pub mod Passed
pub mod Returned
