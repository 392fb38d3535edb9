pub mod Below
pub mod NamedOnce
pub mod RowsFit
pub mod ScopeLoops
pub mod Scoped
pub mod TestsMean
