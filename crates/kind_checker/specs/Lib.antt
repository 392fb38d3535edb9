pub mod Conformable
pub mod Constants
pub mod Headings
pub mod Names
pub mod Operators
pub mod Shapes
pub mod Sizes
pub mod Types
