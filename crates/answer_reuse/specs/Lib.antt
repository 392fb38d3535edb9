pub mod Alike
pub mod Classes
pub mod Figures
pub mod Keys
pub mod Kept
pub mod Laws
pub mod Shared
pub mod Sorting
