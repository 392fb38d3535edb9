pub mod Holders
pub mod Sections
pub mod Walks
