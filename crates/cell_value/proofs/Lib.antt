pub mod BitsAreMembers
pub mod Laws
pub mod ListsRank
pub mod Masks
pub mod WordsMakeSets
