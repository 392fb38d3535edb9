mod EnteringKeepsNesting
mod LeavingKeepsNesting
mod OpenCalls
mod Places
