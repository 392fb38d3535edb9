pub mod Arithmetic
pub mod Chains
pub mod Comparisons
pub mod Effects
pub mod Sets
