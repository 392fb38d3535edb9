pub mod ByStatus
mod BytesAreReadOnce
mod CallsAreRecorded
mod ClapReadsWords
pub mod DigestsAreWhole
mod DigitsSpellNumbers
pub mod FilesAreTold
pub mod MadeSourceIsShort
pub mod RefusalsAreOwed
pub mod RunIsTree
pub mod StatusByCode
pub mod StatusIsRefusal
pub mod StatusTellsWhy
pub mod TranscriptIsGiven
mod TranscriptsAreOne
pub mod WhatIsSupplied
