pub mod Appended
pub mod Answered
pub mod AgreedMarks
pub mod FewerSuspects
pub mod FaultFound
pub mod RootedTree
pub mod FaultLines
