pub mod Entries
pub mod Kept
pub mod Lists
pub mod Marks
pub mod Pages
pub mod Paging
pub mod Passing
