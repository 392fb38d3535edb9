pub mod Failures
pub mod NextToken
pub mod ReadLists
pub mod ReadSeries
