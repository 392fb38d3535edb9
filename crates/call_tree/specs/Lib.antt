pub mod Recording
pub mod Numbering
pub mod Nesting
pub mod Kept
pub mod Clear
pub mod Told
