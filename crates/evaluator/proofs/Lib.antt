mod AfterStatements
mod Arguments
mod ConformantTrees
mod ExpressionsByRow
mod LocatedWeighs
pub mod Moves
mod RecordsLeft
mod StatementsByRow
pub mod StepsFall
mod TransfersByRow
pub mod Turning
