pub mod Fits
pub mod Once
pub mod Parts
pub mod Scopes
