pub mod AgreementByParts
pub mod AgreementIsTested
mod CallsCarry
pub mod ChangesOneByOne
mod ExitsAreGiven
pub mod FramesAgain
pub mod RecordsOfRuns
mod RowsAgree
pub mod StepsAreCounted
pub mod StopsAgain
pub mod WorkBegins
pub mod WorkEnds
pub mod WorkGoesOn
