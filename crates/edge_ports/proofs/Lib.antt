pub mod PiecesAddUp
pub mod NextLineIsFirst
pub mod HandedLinesAreHeard
pub mod SameBytesCome
pub mod NewestFileCounts
pub mod SticksOn
pub mod PrintedInTurn
pub mod RoomFills
