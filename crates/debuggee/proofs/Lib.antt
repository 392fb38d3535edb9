pub mod SourceIsRun
pub mod CallsAreNumbered
pub mod TracesAreOfBodies
pub mod FramesFollow
mod CopiesFound
pub mod PlacesHaveNames
mod ParametersPlaced
mod BlocksPlaced
mod FramesFilled
pub mod AddressesHaveRoots
pub mod ResultsAreOfFunctions
pub mod HeapCellsHaveBlocks
pub mod CellsHaveNames
pub mod CardsLeaveOut
pub mod TracesHaveLines
pub mod ClassesOfRuns
pub mod SlicesOfRuns
pub mod SlicesTold
mod ReferencesSay
