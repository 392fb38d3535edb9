pub mod AlikeInTurn
pub mod ColumnsOfCalls
mod EntriesInTurn
mod FitsTheRun
pub mod LinesInTurn
mod MisfitsInTurn
mod RepliesInTurn
pub mod NamedCalls
mod PiecesInTurn
pub mod RisingCalls
pub mod WordsInTurn
