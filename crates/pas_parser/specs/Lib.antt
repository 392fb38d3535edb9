pub mod Exact
pub mod Formed
pub mod Kinds
