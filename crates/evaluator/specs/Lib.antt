pub mod ExpressionFamilies
pub mod Records
pub mod Rest
pub mod StatementFamilies
pub mod Stops
pub mod TransferFamilies
pub mod Turns
pub mod Weight
