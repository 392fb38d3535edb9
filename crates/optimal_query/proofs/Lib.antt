mod PassingNumbers
mod LeastExists
mod Searched
pub mod OneMoreAnswer
mod AnswersLeave
mod StatesSay
mod AtFault
mod BestOfRuns
mod QuestionFound
mod NextDoubt
mod WeightsTell
mod CallsOfRoutine
mod Changes
mod WhatStands
pub mod StandUnlessTakenBack
pub mod GivenEntriesStand
