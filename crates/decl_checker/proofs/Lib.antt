pub mod Declared
pub mod Early
pub mod Places
pub mod Walks
