pub mod Searched
pub mod Weights
pub mod Sums
pub mod RunColumns
pub mod Weighed
pub mod Carried
pub mod Kept
