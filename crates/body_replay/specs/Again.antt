-- What is left of a call's own work, while it is done again.
use Rattle.std.specs.Prelude.{◌++◌, ◌+◌, ◌-◌, ◌<◌, ◌∷◌, ◌≡◌, ◌≤◌, [], ℕ, List, None, Option, Some, drop, length, map}
use Rattle.std.specs.{Prelude.suc, List.All, List.slice_get}
use Rattle.cell_value.specs.declared.{values.Value.Value, ways_out.WayOut.WayOut}
use Rattle.core_program.specs.{Apply.apply, ProgramRows.ProgramRows, RunLaws.IsMet, Tree.ActTree, Tree.Out}
use Rattle.core_program.specs.Replay.{ChildOf, Event, LineOf, Replaying, end_of, next_call, replay_of}
use Rattle.core_program.specs.Run.{Call, End, Marked, Result, joined}
use Rattle.core_program.specs.State.{State, most_calls}
use Rattle.call_tree.specs.Told.{IsTold}
use Rattle.call_tree.specs.declared.events.Event as kept
use Rattle.call_tree.specs.declared.records.Call as table
use Rattle.eval_ops.specs.Machines.{machine_state}
use Rattle.evaluator.specs.{Rest.rest_of, Rest.waiting, Stops.AtCall, Stops.AtEnd, Stops.AtLine, Stops.Stop}
use Rattle.program_run.specs.Tower.{Calls, Ends, Rests, Stage, stage_after}
use Rattle.program_run.specs.declared.history.History.{History}
use Rattle.body_replay.specs.{Replays.kept_event, declared.replayer.Replayer.Replayer}
use Rattle.body_replay.specs.Records.{HasRoomFor, IsRecordOf}

-- the events, without their marks
abbrev pub happened : List (Marked Event) → List Event
happened es = map (λ e. e.event) es

-- what is left of a result after these events
pub record Past (told : List Event) (r rest : Result Replaying Event) : Type 0 where
  pub end : r.end ≡ rest.end
  pub after : r.after ≡ rest.after
  pub events : happened r.events ≡ told ++ happened rest.events

-- what has still to be done again, after these events, gives the result
pub record LeadsTo (p : ProgramRows) (told : List Event) (t : ActTree) (s : Replaying) (r : Result Replaying Event) :
    Type 0
  where
    pub depth : ℕ
    pub rest : Result Replaying Event
    pub is : replay_of p depth t s ≡ Some rest
    pub past : Past told r rest

-- nothing has to be done again
pub record Over (told : List Event) (end : End) (s : Replaying) (r : Result Replaying Event) : Type 0 where
  pub ends : r.end ≡ end
  pub after : r.after ≡ s
  pub events : happened r.events ≡ told

-- a call that is to be entered, and what its caller does after it
pub record Pending : Type 0 where
  pub routine : ℕ
  pub args : List Value
  pub next : Out → ActTree

-- a call is to be met
pub record Meeting (p : ProgramRows) (told : List Event) (c : Pending) (s : Replaying) (r : Result Replaying Event) :
    Type 0
  where
    pub depth : ℕ
    pub rest : Result Replaying Event
    pub is : joined (next_call c.routine c.args s.state s.number s.calls) (λ out τ. replay_of p (suc depth)
        (c.next out) τ) ≡ Some rest
    pub past : Past told r rest

abbrev pub Stands : ProgramRows → List Event → Stop → Replaying → Result Replaying Event → Type 0
Stands p told (AtLine line rest) s r = LeadsTo p (told ++ LineOf line ∷ []) rest s r
Stands p told (AtCall f args next) s r = Meeting p told (record { routine = f; args = args; next = next }) s r
Stands p told (AtEnd end) s r = Over told end s r

abbrev pub with_state : Replaying → State → Replaying
with_state s σ = record s { state = σ }

-- how it goes on from a stage
abbrev pub Resumed : ProgramRows → List Event → Stage → Replaying → Result Replaying Event → Type 0
Resumed p told (Rests t) s r = LeadsTo p told t s r
Resumed p told (Calls f args next) s r = Meeting p told (record { routine = f; args = args; next = next }) s r
Resumed p told (Ends end) s r = Over told end s r

-- what is left after the effect of a call
abbrev pub after_child : Call → List Call → Replaying → Replaying
after_child c cs s = record { state = apply c s.state; number = s.number + (c.below + 1); calls = drop c.below cs }

pub record Met (p : ProgramRows) (told : List Event) (next : Out → ActTree) (s : Replaying)
    (r : Result Replaying Event) :
    Type 0
  where
    pub call : Call
    pub others : List Call
    pub calls : s.calls ≡ call ∷ others
    pub goes : Resumed p (told ++ ChildOf s.number s.state ∷ []) (stage_after next (end_of call.way call.result))
        (after_child call others s) r
    pub later : List Event
    pub among : happened r.events ≡ told ++ ChildOf s.number s.state ∷ later

-- ---- at work

-- what the history tells of a call of this number
pub record KnownCall (h : History) (number : ℕ) (c : Call) : Type 0 where
  pub row : table.Call
  pub stands : slice_get h.calls.calls number ≡ Some row
  pub recorded : IsRecordOf h.log number row c
  pub told : IsTold h.log h.input row
  pub items : c.entry.items ≡ h.input
  pub room : HasRoomFor c c.entry
  pub last : number + c.below < 500000

-- what is fixed while a call's own work is done again: the number of the call, the calls below it, what the work in the
-- frame gives, and what the history tells of the calls below
pub record Job (h : History) : Type 0 where
  pub number : ℕ
  pub below : List Call
  pub work : Result Replaying Event
  pub met : All (λ e. IsMet (number + 1) below e.event) work.events
  pub known : (i : ℕ) (c : Call) → slice_get below i ≡ Some c → KnownCall h (number + 1 + i) c

-- what is at work: its state, the events so far, and the number of the next call
pub record ReplayView : Type 0 where
  pub state : State
  pub events : List kept.Event
  pub next : ℕ

abbrev pub view_of : Replayer → ReplayView
view_of r = record { state = machine_state r.machine; events = r.events; next = r.next }

-- how far the work is
pub record Reached (h : History) (j : Job h) (stage : List Event → Replaying → Type 0) (v : ReplayView) : Type 0 where
  pub told : List Event
  pub events : v.events ≡ map kept_event told
  pub next : j.number + 1 ≤ v.next
  -- each event took a step or a call
  pub few : length v.events + v.state.steps ≤ 4000000 + v.state.calls
  pub calls : v.state.calls ≤ most_calls
  pub stands : stage told (record { state = v.state; number = v.next; calls = drop (v.next - (j.number + 1)) j.below })

-- it goes on with what the body has still to do
abbrev pub AtBody : ProgramRows → (h : History) → Job h → Replayer → Type 0
AtBody p h j r = Reached h j (λ told s. LeadsTo p told (rest_of p r.body) s j.work) (view_of r)

-- it is before a call
abbrev pub AtChild : ProgramRows → (h : History) → Job h → Replayer → Type 0
AtChild p h j r = Reached h j (λ told s. Met p told (waiting p r.body) s j.work) (view_of r)

-- it is after a call that ended so
abbrev pub AfterChild : ProgramRows → (h : History) → Job h → WayOut × Option Value → Replayer → Type 0
AfterChild p h j end r = Reached h j
    (λ told s. Resumed p told (stage_after (waiting p r.body) (end_of end.0 end.1)) s j.work) (view_of r)

-- it goes on, or the body has ended so
abbrev pub AfterTurn : ProgramRows → (h : History) → Job h → Option (WayOut × Option Value) → Replayer → Type 0
AfterTurn p h j None r = AtBody p h j r
AfterTurn p h j (Some end) r = Reached h j (λ told s. Over told (end_of end.0 end.1) s j.work) (view_of r)

-- a measure of what is still to be done
abbrev pub work_left : Replayer → ℕ
work_left r = r.machine.steps + (500000 - r.machine.calls)
