mod TurnIsPassed
mod MemoryRunsOut
