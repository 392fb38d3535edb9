mod CellsAlike
mod CopiesBefore
pub mod Decimals
mod FieldsPassed
mod IndicesPassed
mod MembersInTurn
pub mod NameParts
mod NamesMade
mod NamesPassed
pub mod PartsInTurn
mod PartsPassed
mod PartsPushed
mod PartsSplit
mod RecordsInTurn
mod RootsPassed
mod SpecsInTurn
mod VariablesPassed
mod WaysDown
pub mod WrittenInTurn
