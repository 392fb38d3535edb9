-- What is recorded of the calls of a run while it goes on, and how a call is entered and left.
use Rattle.std.specs.Prelude.{◌++◌, ◌-◌, ◌∷◌, [], ℕ, List, None, Option, Some, drop, length, map, refl, slice_get}
use Rattle.std.specs.Prelude.{slice_set}
use Rattle.std.specs.Coded.{Coded, code_by, coded_list, coded_ℕ, coded×}
use Rattle.std.specs.FinMap as map
use Rattle.cell_value.specs.declared.{values.Value.Value, ways_out.WayOut.WayOut, ways_out.WayOut.TheVariants.Returned}
use Rattle.call_tree.specs.declared.records.{Call.Call, FrameStart.FrameStart, Side.Side}

-- the calls that were entered so far, in order of entry; the numbers of those that are open, each under the next one;
-- and the number of routines
pub record Recording : Type 0 where
  pub calls : List Call
  pub open_calls : List ℕ
  pub routines : ℕ

-- the columns of the calls
abbrev pub routines_of : List Call → List ℕ
routines_of calls = map (λ call. call.routine) calls

abbrev pub lasts_of : List Call → List ℕ
lasts_of calls = map (λ call. call.last) calls

abbrev pub depths_of : List Call → List ℕ
depths_of calls = map (λ call. call.depth) calls

abbrev pub parents_of : List Call → List (Option ℕ)
parents_of calls = map (λ call. call.parent) calls

-- where the frame of a call begins, and the call that called it
abbrev pub start_of : Call → FrameStart
start_of call = record { top = call.entry.top; parent = call.parent }

abbrev pub starts_of : List Call → List FrameStart
starts_of calls = map start_of calls

-- a recording is stored as the tuple of its fields
abbrev pub recording_code : Coded Call → Coded Recording
recording_code call =
    code_by ((List Call × List ℕ) × ℕ) (coded× (coded× (coded_list call) (coded_list coded_ℕ)) coded_ℕ)
    (λ r. ((r.calls, r.open_calls), r.routines))
    (λ p. record { calls = p.0.0; open_calls = p.0.1; routines = p.1 }) (λ _. refl)

-- no call was entered yet
abbrev pub nothing_entered : ℕ → Recording
nothing_entered routines = record { calls = []; open_calls = []; routines = routines }

-- a side that is not known yet
abbrev pub blank_side : Side
blank_side = record { mark = 0; top = 0; fresh = 0; place = 0; output = 0; steps = 0; calls = 0; store = map.empty }

-- a call when it is entered under these open calls, after this many others
abbrev pub new_call : ℕ → List ℕ → ℕ → List Value → Side → Call
new_call number outer routine args entry = record {
  routine = routine;
  parent = slice_get outer 0;
  depth = length outer;
  last = number;
  args = args;
  entry = entry;
  exit = blank_side;
  way = Returned;
  result = None;
}

-- a call is entered: it is the next one, it is open, and the innermost open call is its parent
abbrev pub entered : Recording → ℕ → List Value → Side → Recording
entered r routine args entry = record {
  calls = r.calls ++ new_call (length r.calls) r.open_calls routine args entry ∷ [];
  open_calls = length r.calls ∷ r.open_calls;
  routines = r.routines;
}

-- a call when it is left, after which this many calls were entered: the last of those ends its subtree
abbrev pub left_call : Call → ℕ → Side → WayOut → Option Value → Call
left_call call entered_calls exit way answer = record call
    { last = entered_calls - 1; exit = exit; way = way; result = answer }

-- the calls when this one of them is left
abbrev pub leaving : List Call → ℕ → Option Call → Side → WayOut → Option Value → List Call
leaving calls number (Some call) exit way answer =
    slice_set calls number (left_call call (length calls) exit way answer)
leaving calls number None exit way answer = calls

abbrev pub calls_left : List Call → List ℕ → Side → WayOut → Option Value → List Call
calls_left calls [] exit way answer = calls
calls_left calls (number ∷ outer) exit way answer = leaving calls number (slice_get calls number) exit way answer

-- the innermost open call is left
abbrev pub left : Recording → Side → WayOut → Option Value → Recording
left r exit way answer = record {
  calls = calls_left r.calls r.open_calls exit way answer;
  open_calls = drop 1 r.open_calls;
  routines = r.routines;
}
