pub mod HeapLaws
pub mod JumpLaws
pub mod LaidOut
pub mod LaidTests
pub mod ParameterLaws
pub mod ParameterPieces
pub mod PointerLaws
