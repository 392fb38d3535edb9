pub mod BestSoFar
pub mod LastPartIsZero
pub mod LanesOfOperations
pub mod LeastBelowBound
pub mod MaskMarksPlaces
pub mod FewerByLanes
pub mod AnswersAreUnique
