pub mod RepliesInOrder
pub mod LineIsAnswered
pub mod DialogEnds
pub mod SessionsAreHeld
pub mod TranscriptIsGiven
pub mod ReportsAreSound
pub mod LinesAreFollowed
