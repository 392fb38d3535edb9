pub mod Inside
pub mod Walks
