pub mod Nodes
pub mod Addresses
pub mod Cells
pub mod Loans
