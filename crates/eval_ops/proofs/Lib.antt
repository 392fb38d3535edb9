pub mod ActionsCompose
mod Bounds
mod BoundsHeld
pub mod CallsInFrames
mod CellsCounted
mod DimensionsFound
mod FrameCells
pub mod FramesByCell
pub mod Lists
mod NextCells
mod NextUndefined
pub mod Texts
mod VariantsEntered
pub mod WritesAsk
