pub mod Division
pub mod Lexed
pub mod Lexicon
pub mod Lexis
pub mod Limits
pub mod Reading
