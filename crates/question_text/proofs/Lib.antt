mod CardsWhole
mod CellsInTurn
mod CopiesInRange
mod FoundInOrder
mod FramesOutward
mod LinesInTurn
mod NamesWhole
mod StatesWhole
