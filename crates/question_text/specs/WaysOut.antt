-- How a call ended: what is shown of it.
use Rattle.std.specs.Prelude.{◌++◌, ℕ, List, None, Option, Some, codes, decimal, length}
use Rattle.cell_value.specs.declared.ways_out.{Kind.Kind, WayOut.WayOut, Which.Which}
use Rattle.call_tree.specs.declared.records.Call.{Call}
use Rattle.question_text.specs.Frames.{call_of_frame}

-- the name of a kind of fault
abbrev pub fault_text : Kind → List ℕ
fault_text Kind.Overflow = codes "Overflow"
fault_text Kind.ZeroDivisor = codes "ZeroDivisor"
fault_text Kind.BadModulus = codes "BadModulus"
fault_text Kind.OutOfRange = codes "OutOfRange"
fault_text Kind.Undefined = codes "Undefined"
fault_text Kind.NilPointer = codes "NilPointer"
fault_text Kind.Disposed = codes "Disposed"
fault_text Kind.InactiveVariant = codes "InactiveVariant"
fault_text Kind.NoCase = codes "NoCase"
fault_text Kind.PastEnd = codes "PastEnd"
fault_text Kind.BadNumber = codes "BadNumber"
fault_text Kind.BadWidth = codes "BadWidth"
fault_text Kind.UndefinedResult = codes "UndefinedResult"

abbrev pub limit_text : Which → List ℕ
limit_text Which.Calls = codes "calls"
limit_text Which.Depth = codes "depth"
limit_text Which.Stack = codes "stack"
limit_text Which.Heap = codes "heap"

-- whose label a jump led to: that of a call; or, if no open call has the frame that begins at a base, of the frame
abbrev pub holder_text : (base : ℕ) → Option ℕ → List ℕ
holder_text base None = codes " of frame " ++ decimal base
holder_text base (Some call) = codes " of call " ++ decimal call

-- how a call ended; a jump out of it tells the label and the call that went on there
abbrev pub way_text : List Call → (parent : Option ℕ) → WayOut → List ℕ
way_text calls parent WayOut.Returned = codes "returned"
way_text calls parent (WayOut.Jumped label base) =
    codes "jumped to " ++ decimal label ++ holder_text base (call_of_frame calls (length calls) parent base)
way_text calls parent (WayOut.Faulted k line) = codes "faulted " ++ fault_text k ++ codes " line " ++ decimal line
way_text calls parent WayOut.OutOfSteps = codes "out of steps"
way_text calls parent (WayOut.Limited w) = codes "limited " ++ limit_text w
