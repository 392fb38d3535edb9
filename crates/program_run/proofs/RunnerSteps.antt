-- What the steps of a runner do with its open calls.
use Rattle.std.proofs.Common.{◌++◌, ◌+◌, ◌<◌, ◌∙◌, ◌∷◌, ◌≡◌, [], ℕ, Err, List, Ok, OnOk, Result, ap, arith, length, length-append, map, reverse, subst, sym}
use Rattle.std.proofs.lemmas.List.{reverse-append}
use Rattle.cell_value.specs.declared.values.Value.{Value}
use Rattle.core_program.specs.{ProgramRows.ProgramRows, Tree.ActTree, Tree.Out}
use Rattle.call_tree.specs.Recording.{Recording, entered}
use Rattle.eval_ops.specs.Machines.{Moment}
use Rattle.evaluator.specs.Stops.{NextStopIs, Stop}
use Rattle.program_run.proofs.{ActsKeepCalls.onward, LinesTakeSteps.LeftAt, LinesTakeSteps.left_at_stop, StepsLeadToTheRun.climb_enter}
use Rattle.program_run.specs.{Runners.CallBegun, Runners.Invocation, Runners.open_in, Table.side_of}
use Rattle.program_run.specs.Tower.{Activation, CallBegins, Calls, First, TowerAt, View}
use Rattle.program_run.specs.declared.{open_call.OpenCall.OpenCall, runner.Begun.Begun, runner.Begun.TheVariants.Ended, runner.Begun.TheVariants.Framed}

-- an open call more
pub pushed : (p : ProgramRows) (xs ys : List OpenCall) (o : OpenCall) → ys ≡ xs ++ o ∷ []
    → map (open_in p) (reverse ys) ≡ open_in p o ∷ map (open_in p) (reverse xs)
pushed p xs ys o e = ap (λ os. map (open_in p) (reverse os)) e ∙ ap (map (open_in p)) (reverse-append xs (o ∷ []))

-- what is known of a call that was entered
pub record Entered (p : ProgramRows) (e : Activation) (rest : Out → ActTree) (v v' : View) : Type 0 where
  pub begins : CallBegins p e v.moment v'.moment
  pub recording : v'.recording ≡ entered v.recording e.routine e.args (side_of (length v.moment.log) v.moment.state)
  pub opens : v'.opens ≡ record { base = v.moment.state.top; cells = e.cells; rest = rest } ∷ v.opens

pub entered_stands : {p : ProgramRows} {first : First} (e : Activation) (rest : Out → ActTree) (v v' : View) → Entered p e rest v v'
    → TowerAt p first (Calls e.routine e.args rest) v → TowerAt p first e.stage v'
entered_stands {p = p} {first = first} e rest v v' known t =
    subst (λ w. TowerAt p first e.stage w) (λ i. record {
      opens = sym known.opens i;
      moment = v'.moment;
      recording = sym known.recording i;
    }) (climb_enter v v'.moment rest e t known.begins)

pub few_begun : (p : ProgramRows) (call : Invocation) (begun : Begun) (m m' : Moment) → CallBegun p call begun m m'
    → length m.state.output + m.state.steps < 4294967296 → length m'.state.output + m'.state.steps < 4294967296
few_begun p call (Framed cells) m m' b h = let e = ap length b.output in let l = b.steps in omega (arith, e, l, h)
few_begun p call (Ended way) m m' b h = let e = ap length b.output in let l = b.steps in omega (arith, e, l, h)

pub few_onward : {p : ProgramRows} {t : ActTree} {m : Moment} {stop : Stop} {m' : Moment} → NextStopIs p t m stop m'
    → length m.state.output + m.state.steps < 4294967296 → length m'.state.output + m'.state.steps < 4294967296
few_onward {p = p} {t = t} {m = m} {stop = stop} {m' = m'} s h = let l = (onward p s.moves t m stop m' s.is).same.output in omega (arith, l, h)

-- the table of calls has the same open calls, once one is entered
pub counted_entered : (r r' : Recording) (xs ys : List OpenCall) (o : OpenCall) (f : ℕ) (args : List Value) (side : _) → r' ≡ entered r f args side
    → ys ≡ xs ++ o ∷ [] → length r.open_calls ≡ length xs → length r'.open_calls ≡ length ys
counted_entered r r' xs ys o f args side e k h = ap (λ (q : Recording). length q.open_calls) e
    ∙ (let l = length-append xs (o ∷ []) in let m = ap length k in let n = h in omega (arith, l, m, n))

-- from a stop on fewer steps are left, or no more
pub steps_onward : {p : ProgramRows} {t : ActTree} {m : Moment} {stop : Stop} {m' : Moment} → NextStopIs p t m stop m'
    → LeftAt m.state.steps stop m'.state.steps
steps_onward {p = p} {t = t} {m = m} {stop = stop} {m' = m'} s = left_at_stop p m.state.steps s.moves t m stop m' (omega arith) s.is

pub calls_onward : {p : ProgramRows} {t : ActTree} {m : Moment} {stop : Stop} {m' : Moment} → NextStopIs p t m stop m' → m'.state.calls ≡ m.state.calls
calls_onward {p = p} {t = t} {m = m} {stop = stop} {m' = m'} s = (onward p s.moves t m stop m' s.is).same.calls

pub begun_calls : (p : ProgramRows) (call : Invocation) (begun : Begun) (m m' : Moment) → CallBegun p call begun m m'
    → m'.state.calls ≡ m.state.calls + 1
begun_calls p call (Framed cells) m m' b = b.calls
begun_calls p call (Ended way) m m' b = b.calls

-- what holds after a success, from what else does
pub on_ok : {X E : Type 0} (r : Result X E) (A B : Type 0) → (A → B) → OnOk r A → OnOk r B
on_ok (Ok x) A B f h = f h
on_ok (Err e) A B f h = h
