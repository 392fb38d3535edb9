-- A recorded call's own work, done again with the recorded effects of the calls that it made, is what was recorded.
use Rattle.std.proofs.Common.{if◌then◌else◌, ◌&&◌, ◌++◌, ◌+◌, ◌∙◌, ◌∷◌, ◌≡◌, [], ℕ, ℤ, Bool, List, None, Option, Some, ap, append_assoc, arith, drop, false}
use Rattle.std.proofs.Common.{length, nat_eq, nat_lt, refl, subst, suc, sym, true, zero}
use Rattle.std.proofs.{Math.Seq.drop-append_seam, lemmas.Bool.Decides.nat_tests, lemmas.List.length-map}
use Rattle.std.specs.{List.slice_get, Ordering.int_eq}
use Rattle.cell_value.specs.declared.{entries.Touch.Touch, values.Value.Value, ways_out.WayOut.WayOut, ways_out.Which.Which, ways_out.Which.TheVariants.Stack}
use Rattle.core_program.proofs.{ActsLeave.MayEnter, ActsLeave.limits_hold, Effects.effect_is, OutcomesCompose.none_some}
use Rattle.core_program.proofs.Events.{events_append, events_length, unmarked}
use Rattle.core_program.proofs.RunsLeave.{Inner, IsProper, act_left, call_leaves, ran_leaves, sound_framed, sound_opened}
use Rattle.core_program.proofs.Ways.{Ran, RanCall, RanFrame, changed, ending, front, of_call}
use Rattle.core_program.proofs.Ways as ways
use Rattle.core_program.specs.{Accesses.scalar, Apply.apply, Heap.pointer_result_at, Layer.layer, Passed.Entering, Passed.args_at, Passed.cells_entered}
use Rattle.core_program.specs.{Replay.same_numbers, Replay.same_value, RunLaws.IsMet, State.IsSound, State.State, State.moved, Statements.on_normal}
use Rattle.core_program.specs.{Tree.way_of, declared.program.Routine.Routine, declared.rows.TypeRow.TypeRow}
use Rattle.core_program.specs.Actions.{Action, Fail, Give, NoMeaning, Perform}
use Rattle.core_program.specs.Acts.{Answer, Limited, OutOfSteps, Spend, limit_passed, spent}
use Rattle.core_program.specs.ProgramRows.{ProgramRows, routine_at, row_at}
use Rattle.core_program.specs.Replay.{ChildOf, Event, LineOf, Replayed, Replaying, end_of, in_replaying, next_call, on_state, replay_of, replaying, same_args}
use Rattle.core_program.specs.Run.{Call, End, Ended, Halted, Marked, Result, after_all, at_work, call_closed, ends, frame_size, framed_run, if_allowed}
use Rattle.core_program.specs.Run.{in_front, joined, later_by, on_done, on_end, opened, record_of, result_in, result_of_type, result_read, return_of}
use Rattle.core_program.specs.Run.{type_in_heading, way_out, whole, with_frame, without_frame}
use Rattle.core_program.specs.Tree.{ActTree, Actuals, Address, Bounded, Cells, Do, Enter, Halt, Jump, Line, Meaningless, Nothing, Out, Ret, Scalar, Sub, doing}

-- ---- how a call's inside may end

-- an end that a record tells: that of a statement, of a function, or by a jump
abbrev pub IsCallEnd : End → Type 0
IsCallEnd (Ended (Cells vs)) = ⊥
IsCallEnd (Ended (Actuals passed)) = ⊥
IsCallEnd (Ended (Address addr)) = ⊥
IsCallEnd (Ended (Bounded addr frame)) = ⊥
IsCallEnd e = Unit {0}

abbrev Returns : ActTree → Type 0
Returns (Ret out) = IsCallEnd (Ended out)
Returns (Halt line why) = Unit {0}
Returns Meaningless = Unit {0}
Returns (Do line act next) = (x : Answer act) → Returns (next x)
Returns (Sub part next) = (out : Out) → Returns (next out)
Returns (Enter e next) = (out : Out) → Returns (next out)
Returns (Line line next) = Returns next

doing_returns : {A : Type 0} (line : ℕ) (a : Action A) (k : A → ActTree) → ((x : A) → Returns (k x)) → Returns (doing line a k)
doing_returns line (Give x) k h = h x
doing_returns line (Fail why) k h = tt
doing_returns line NoMeaning k h = tt
doing_returns line (Perform act next) k h = λ x. doing_returns line (next x) k h

whole_returns : (p : ProgramRows) (f base : ℕ) (q : Routine) → Returns (whole p f base q)
whole_returns p f base q = λ out. by q.result out
  where
    bounds : (place : ℕ) (t : Option TypeRow) → Returns (result_of_type q.line (moved base place) t)
    bounds place (Some (TypeRow.Ordinal i j)) = doing_returns q.line (result_read i j (moved base place)) scalar (λ v. tt)
    bounds place (Some (TypeRow.Subrange host i j)) = doing_returns q.line (result_read i j (moved base place)) scalar (λ v. tt)
    bounds place (Some (TypeRow.Pointer domain)) = doing_returns q.line (pointer_result_at (moved base place)) scalar (λ v. tt)
    bounds place t = tt

    normal : (o : Option ℕ) → Returns (return_of p base q o)
    normal None = tt
    normal (Some place) = bounds place (type_in_heading p (row_at p q.heading))

    by : (o : Option ℕ) (out : Out) → Returns (on_normal (return_of p base q o) out)
    by o (Jump label b) = tt
    by o Nothing = normal o
    by o (Scalar v) = normal o
    by o (Cells vs) = normal o
    by o (Actuals passed) = normal o
    by o (Address addr) = normal o
    by o (Bounded addr frame) = normal o

module _ (p : ProgramRows) where
  ran_returns : {n : ℕ} {t : ActTree} {σ : State} {r : Result State Call} → Ran p n t σ r → Returns t → IsCallEnd r.end
  ran_returns ways.Returned h = h
  ran_returns ways.Stopped h = tt
  ran_returns (ways.Refused q) h = tt
  ran_returns (ways.Acted {x = x} q a) h = ran_returns a (h x)
  ran_returns (ways.PartStopped a e) h = subst IsCallEnd (sym e) tt
  ran_returns (ways.PartEnded {out = out} a e g) h = ran_returns g (h out)
  ran_returns (ways.AtLimit q) h = tt
  ran_returns (ways.CallStopped q a e) h = subst IsCallEnd (sym e) tt
  ran_returns (ways.CallEnded {out = out} q a e g) h = ran_returns g (h out)
  ran_returns (ways.NotBegun q) h = tt
  ran_returns (ways.Began q a) h = ran_returns a h

  frame_returns : {n f : ℕ} {args : List Value} {σ : State} {r : Result State Call} → RanFrame p n f args σ r → IsCallEnd r.end
  frame_returns (ways.NoRoom e t) = tt
  frame_returns (ways.NoSteps e t u) = tt
  frame_returns (ways.Worked {f = f} {σ = σ} {q = q} e t u h) = ran_returns h (whole_returns p f σ.top q)

  pub call_returns : {n f : ℕ} {args : List Value} {σ : State} {r : Result State Call} → RanCall p n f args σ r → IsCallEnd r.end
  call_returns (ways.Closed c h) = frame_returns h

-- such an end is told by the way out and the result
pub end_told : (e : End) → IsCallEnd e → IsProper e → end_of (way_out e) (result_in e) ≡ e
end_told (Ended Nothing) h k = refl
end_told (Ended (Scalar v)) h k = refl
end_told (Ended (Jump label base)) h k = refl
end_told (Ended (Cells vs)) h k = absurd h
end_told (Ended (Actuals passed)) h k = absurd h
end_told (Ended (Address addr)) h k = absurd h
end_told (Ended (Bounded addr frame)) h k = absurd h
end_told (Halted WayOut.Returned) h k = absurd k
end_told (Halted (WayOut.Jumped label base)) h k = absurd k
end_told (Halted (WayOut.Faulted kind line)) h k = refl
end_told (Halted WayOut.OutOfSteps) h k = refl
end_told (Halted (WayOut.Limited which)) h k = refl

-- ---- what is met

abbrev pub Meets : ℕ → List Call → List (Marked Event) → Type 0
Meets n cs [] = Unit {0}
Meets n cs (e ∷ es) = IsMet n cs e.event × Meets n cs es

get_left : (cs ds : List Call) (i : ℕ) (c : Call) → slice_get cs i ≡ Some c → slice_get (cs ++ ds) i ≡ Some c
get_left [] ds i c e = absurd (none_some e)
get_left (d ∷ cs) ds zero c e = e
get_left (d ∷ cs) ds (suc i) c e = get_left cs ds i c e

get_right : (cs ds : List Call) (i : ℕ) → slice_get (cs ++ ds) (length cs + i) ≡ slice_get ds i
get_right [] ds i = ap (slice_get ds) (let e : 0 + i ≡ i = omega arith in e)
get_right (d ∷ cs) ds i = ap (slice_get (d ∷ cs ++ ds)) (let e : suc (length cs) + i ≡ suc (length cs + i) = omega arith in e) ∙ get_right cs ds i

met_left : (n : ℕ) (cs ds : List Call) (e : Event) → IsMet n cs e → IsMet n (cs ++ ds) e
met_left n cs ds (LineOf line) h = tt
met_left n cs ds (ChildOf number before) h = (h.0, h.1, h.2, get_left cs ds h.0 h.1 h.3, h.4)

met_right : (n : ℕ) (cs ds : List Call) (e : Event) → IsMet (n + length cs) ds e → IsMet n (cs ++ ds) e
met_right n cs ds (LineOf line) h = tt
met_right n cs ds (ChildOf number before) h = (length cs + h.0, h.1, omega (arith, h.2), get_right cs ds h.0 ∙ h.3, h.4)

meets_left : (n : ℕ) (cs ds : List Call) (es : List (Marked Event)) → Meets n cs es → Meets n (cs ++ ds) es
meets_left n cs ds [] h = tt
meets_left n cs ds (e ∷ es) h = (met_left n cs ds e.event h.0, meets_left n cs ds es h.1)

meets_right : (n k : ℕ) (cs ds : List Call) (es : List (Marked Event)) → Meets (n + length cs) ds es → Meets n (cs ++ ds) (later_by k es)
meets_right n k cs ds [] h = tt
meets_right n k cs ds (e ∷ es) h = (met_right n cs ds e.event h.0, meets_right n k cs ds es h.1)

meets_append : (n : ℕ) (cs : List Call) (ds es : List (Marked Event)) → Meets n cs ds → Meets n cs es → Meets n cs (ds ++ es)
meets_append n cs [] es h k = k
meets_append n cs (d ∷ ds) es h k = (h.0, meets_append n cs ds es h.1 k)

-- ---- the work again

-- The work again ends as it did, leaves what it left, and has met the calls, of which these are left.
pub record Redo (n : ℕ) (r : Result State Call) (cs : List Call) (x : Replayed) : Type 0 where
  pub run : Result Replaying Event
  pub is : x ≡ Some run
  pub end : run.end ≡ r.end
  pub after : run.after ≡ record { state = r.after; number = n + length r.events; calls = cs }
  pub meets : Meets n (unmarked r.events) run.events

same_replaying : {σ : State} {n k : ℕ} {cs : List Call} → n ≡ k
    → ◌≡◌ {A = Replaying} (record { state = σ; number = n; calls = cs }) (record { state = σ; number = k; calls = cs })
same_replaying {σ = σ} {cs = cs} e = ap (λ n. record { state = σ; number = n; calls = cs }) e

-- what was before, and what followed
front_redo : (w : List Touch) (es : List (Marked Call)) (w' : List Touch) (ds : List (Marked Event)) {r : Result State Call} {n : ℕ} {cs : List Call}
    {x y : Replayed} → Redo (n + length es) r cs y → Meets n (unmarked es) ds → x ≡ in_front w' ds y → Redo n (front w es r) cs x
front_redo w es w' ds {r = r} {n = n} {cs = cs} {x = x} {y = y} b m q = record {
  run = front w' ds b.run;
  is = q ∙ ap (in_front w' ds) b.is;
  end = b.end;
  after = b.after ∙ same_replaying (omega (arith, events_length (length w) es r.events));
  meets = subst (λ l. Meets n l (ds ++ later_by (length w') b.run.events)) (sym (events_append (length w) es r.events))
      (meets_append n (unmarked es ++ unmarked r.events) ds (later_by (length w') b.run.events) (meets_left n (unmarked es) (unmarked r.events) ds m)
      (meets_right n (length w') (unmarked es) (unmarked r.events) b.run.events
      (subst (λ k. Meets (n + k) (unmarked r.events) b.run.events) (sym (length-map es (λ e. e.event))) b.meets)));
}

redo_at : {n : ℕ} {r : Result State Call} {cs : List Call} {x y : Replayed} → x ≡ y → Redo n r cs y → Redo n r cs x
redo_at e b = record { run = b.run; is = e ∙ b.is; end = b.end; after = b.after; meets = b.meets }

from_zero : {n : ℕ} {r : Result State Call} {cs : List Call} {y : Replayed} → Redo n r cs y → Redo (n + 0) r cs y
from_zero {n = n} {r = r} {cs = cs} {y = y} b = subst (λ k. Redo k r cs y) (let e : n ≡ n + 0 = omega arith in e) b

abbrev at : State → ℕ → List Call → Replaying
at σ n cs = record { state = σ; number = n; calls = cs }

ends_redo : (e : End) (σ : State) (n : ℕ) (cs : List Call) → Redo n (ending e σ) cs (ends e (at σ n cs))
ends_redo e σ n cs = record {
  run = record { end = e; after = at σ n cs; log = []; events = [] };
  is = refl;
  end = refl;
  after = same_replaying (omega arith);
  meets = tt;
}

-- the calls of a part, and those of what follows it
calls_after : (w : List Touch) (es : List (Marked Call)) (r : Result State Call) (cs : List Call)
    → unmarked (front w es r).events ++ cs ≡ unmarked es ++ (unmarked r.events ++ cs)
calls_after w es r cs = ap (λ l. l ++ cs) (events_append (length w) es r.events) ∙ append_assoc (unmarked es) (unmarked r.events) cs

-- a part or a call that stops the run
stopped_redo : {y : Result State Call} {n : ℕ} {cs : List Call} {x : Replayed} {way : WayOut} (g : Out → Replaying → Replayed) → Redo n y cs x
    → y.end ≡ Halted way → Redo n y cs (joined x g)
stopped_redo g a e = record {
  run = a.run;
  is = ap (λ x. joined x g) a.is ∙ ap (λ d. on_end d a.run g) (a.end ∙ e);
  end = a.end;
  after = a.after;
  meets = a.meets;
}

-- or one that ends, and what follows it
ended_redo : {y z : Result State Call} {n : ℕ} {cs : List Call} {x : Replayed} {out : Out} (g : Out → Replaying → Replayed)
    → Redo n y (unmarked z.events ++ cs) x → y.end ≡ Ended out
    → Redo (n + length y.events) z cs (g out (at y.after (n + length y.events) (unmarked z.events ++ cs))) → Redo n (front y.log y.events z) cs (joined x g)
ended_redo {y = y} {out = out} g a e b = front_redo y.log y.events a.run.log a.run.events b a.meets (ap (λ x. joined x g) a.is
    ∙ ap (λ d. on_end d a.run g) (a.end ∙ e) ∙ ap (λ s. in_front a.run.log a.run.events (g out s)) a.after)

-- ---- calls

int_self : (i : ℤ) → int_eq i i ≡ true
int_self i = grind (arith, nat_tests)

pub nat_self : (n : ℕ) → nat_eq n n ≡ true
nat_self n = grind (arith, nat_tests)

numbers_self : (ns : List ℕ) → same_numbers ns ns ≡ true
numbers_self [] = refl
numbers_self (n ∷ ns) = ap (λ b. b && same_numbers ns ns) (nat_self n) ∙ numbers_self ns

value_self : (v : Value) → same_value v v ≡ true
value_self Value.Undefined = refl
value_self (Value.Number i) = int_self i
value_self (Value.Bits a) = numbers_self a.words
value_self Value.Nil = refl
value_self (Value.Heap a) = nat_self a
value_self (Value.Place a) = nat_self a
value_self (Value.Frame a) = nat_self a
value_self (Value.Routine f a) = ap (λ b. b && nat_eq a a) (nat_self f) ∙ nat_self a

pub args_self : (vs : List Value) → same_args vs vs ≡ true
args_self [] = refl
args_self (v ∷ vs) = ap (λ b. b && same_args vs vs) (value_self v) ∙ args_self vs

-- the call that was recorded is met
met_call : (f : ℕ) (args : List Value) (σ : State) (y : Result State Call) (n : ℕ) (cs : List Call) → IsSound σ → Inner σ y → IsCallEnd y.end
    → Redo n (of_call f args σ y) cs (next_call f args σ n (record_of f args σ y ∷ (unmarked y.events ++ cs)))
met_call f args σ y n cs s h k = record {
  run = kept;
  is = ap (λ b. if b && same_args args args then Some kept else None) (nat_self f) ∙ ap (λ b. if b then Some kept else None) (args_self args);
  end = end_told y.end k h.proper;
  after = λ i. record {
    state = effect i;
    number = (let e : n + (length y.events + 1) ≡ n + suc (length y.events) = omega arith in e) i;
    calls = rest i;
  };
  meets = ((0, record_of f args σ y, omega arith, refl, refl), tt);
}
  where
    kept : Result Replaying Event
    kept = record {
      end = end_of (way_out y.end) (result_in y.end);
      after = at (apply (record_of f args σ y) σ) (n + (length y.events + 1)) (drop (length y.events) (unmarked y.events ++ cs));
      log = [];
      events = (record { mark = 0; event = ChildOf n σ }) ∷ [];
    }

    effect : apply (record_of f args σ y) σ ≡ y.after
    effect = effect_is (record_of f args σ y) σ y.after y.log (suc (length y.events)) s h.leaves (record {
      base = refl;
      from = 0;
      to = 0;
      log = refl;
      steps = omega (arith, h.leaves.steps);
      calls = omega arith;
    })

    rest : drop (length y.events) (unmarked y.events ++ cs) ≡ cs
    rest = ap (λ k. drop k (unmarked y.events ++ cs)) (sym (length-map y.events (λ e. e.event))) ∙ drop-append_seam (unmarked y.events) cs

-- a change after all
changed_redo : (change : State → State) {n : ℕ} {y : Result State Call} {cs : List Call} {x : Replayed} → Redo n y cs x
    → Redo n (changed change y) cs (after_all (on_state change) x)
changed_redo change a = record {
  run = changed (on_state change) a.run;
  is = ap (after_all (on_state change)) a.is;
  end = a.end;
  after = ap (on_state change) a.after;
  meets = a.meets;
}

module _ (p : ProgramRows) where
  abbrev again_of : {n : ℕ} {t : ActTree} {σ : State} {r : Result State Call} → Ran p n t σ r → ℕ → List Call → Replayed
  again_of {n = n} {t = t} {σ = σ} {r = r} h k cs = replay_of p n t (at σ k (unmarked r.events ++ cs))

  abbrev next_of : ℕ → (Out → ActTree) → Out → Replaying → Replayed
  next_of n next out s = replay_of p (suc n) (next out) s

  abbrev entered : ℕ → Entering → (Out → ActTree) → Option Which → Replaying → Replayed
  entered n e next o s = if_allowed o s (joined (next_call e.routine (args_at e s.state.top) s.state s.number s.calls) (next_of n next))

  -- each run is the same again, from the effects of its calls
  ran_redo : {n : ℕ} {t : ActTree} {σ : State} {r : Result State Call} → (h : Ran p n t σ r) → IsSound σ → (k : ℕ) (cs : List Call)
      → Redo k r cs (again_of h k cs)
  ran_redo (ways.Returned {out = out} {σ = σ}) s k cs = ends_redo (Ended out) σ k cs
  ran_redo (ways.Stopped {line = line} {why = why} {σ = σ}) s k cs = ends_redo (Halted (way_of line why)) σ k cs
  ran_redo (ways.Refused {n = n} {line = line} {next = next} {σ = σ} {why = why} {w = w} {τ = τ} q) s k cs =
      front_redo w [] w [] (from_zero (ends_redo (Halted (way_of line why)) τ k cs)) tt
      (ap (λ d. on_done replaying line (at σ k cs) d (λ x τ. replay_of p (suc n) (next x) τ)) q)
  ran_redo (ways.Acted {n = n} {line = line} {act = act} {next = next} {σ = σ} {x = x} {w = w} {τ = τ} {r = y} q h) s k cs =
      front_redo w [] w [] (from_zero (ran_redo h (act_left act s q).sound k cs)) tt
      (ap (λ d. on_done replaying line (at σ k (unmarked (front w [] y).events ++ cs)) d (λ x τ. replay_of p (suc n) (next x) τ)) q
      ∙ ap (λ l. in_front w [] (replay_of p (suc n) (next x) (at τ k l))) (calls_after w [] y cs))
  ran_redo (ways.PartStopped {n = n} {next = next} h e) s k cs = stopped_redo (next_of n next) (ran_redo h s k cs) e
  ran_redo (ways.PartEnded {n = n} {part = part} {next = next} {σ = σ} {r = y} {s = z} h e g) s k cs =
      redo_at (ap (λ l. joined (replay_of p n (layer p part) (at σ k l)) (next_of n next)) (calls_after y.log y.events z cs))
      (ended_redo (next_of n next) (ran_redo h s k (unmarked z.events ++ cs)) e (ran_redo g (ran_leaves p h s).leaves.sound (k + length y.events) cs))
  ran_redo (ways.AtLimit {n = n} {e = e} {next = next} {σ = σ} {which = which} q) s k cs =
      redo_at (ap (λ o. entered n e next o (at σ k cs)) q) (ends_redo (Halted (WayOut.Limited which)) σ k cs)
  ran_redo (ways.CallStopped {n = n} {e = e} {next = next} {σ = σ} {y = y} q h d) s k cs =
      redo_at (ap (λ o. entered n e next o (at σ k (unmarked (of_call e.routine (args_at e σ.top) σ y).events ++ cs))) q)
      (stopped_redo (next_of n next)
      (met_call e.routine (args_at e σ.top) σ y k cs s (call_leaves p h s (limits_hold σ (cells_entered e) q)) (call_returns p h)) d)
  ran_redo (ways.CallEnded {n = n} {e = e} {next = next} {σ = σ} {y = y} {s = z} q h d g) s k cs =
      let i = call_leaves p h s (limits_hold σ (cells_entered e) q) in
      let w = of_call e.routine (args_at e σ.top) σ y in
      redo_at (ap (λ l. entered n e next (limit_passed σ (cells_entered e)) (at σ k l)) (calls_after y.log w.events z cs)
      ∙ ap (λ o. entered n e next o (at σ k (unmarked w.events ++ (unmarked z.events ++ cs)))) q)
      (ended_redo (next_of n next) (met_call e.routine (args_at e σ.top) σ y k (unmarked z.events ++ cs) s i (call_returns p h)) d
      (ran_redo g i.leaves.sound (k + length w.events) cs))
  ran_redo (ways.NotBegun {n = n} {line = line} {next = next} {σ = σ} {why = why} {w = w} {τ = τ} q) s k cs =
      front_redo w [] w [] (from_zero (ends_redo (Halted (way_of line why)) τ k cs)) tt
      (ap (λ d. on_done replaying line (at σ k cs) d (λ x τ. in_front [] (replaying.line line) (replay_of p (suc n) next τ))) q)
  ran_redo (ways.Began {n = n} {line = line} {next = next} {σ = σ} {w = w} {τ = τ} {r = y} q h) s k cs =
      front_redo w [] w [] (from_zero (front_redo [] [] [] (replaying.line line) (from_zero (ran_redo h (act_left (Spend 1) s q).sound k cs)) (tt, tt)
      (ap (λ l. in_front [] (replaying.line line) (replay_of p (suc n) next (at τ k l))) (calls_after [] [] y cs)))) tt
      (ap (λ d. on_done replaying line (at σ k (unmarked (front w [] (front [] [] y)).events ++ cs)) d
      (λ x τ. in_front [] (replaying.line line) (replay_of p (suc n) next τ))) q
      ∙ ap (λ l. in_front w [] (in_front [] (replaying.line line) (replay_of p (suc n) next (at τ k l)))) (calls_after w [] (front [] [] y) cs))

  abbrev framed_again : ℕ → ℕ → List Value → Replaying → Option Routine → Replayed
  framed_again n f args s o = framed_run in_replaying (at_work p (replay_of p n) f) args s o

  abbrev choice : ℕ → ℕ → List Value → Routine → Replaying → Bool → Bool → Replayed
  choice n f args q s a b =
      if a then ends (Halted (way_of 0 (Limited Stack))) s
      else if b then ends (Halted (way_of 0 OutOfSteps)) (on_state spent s)
      else after_all (on_state (without_frame s.state.top (frame_size q args))) (replay_of p n (whole p f s.state.top q) (on_state (with_frame q args) s))

  abbrev chosen : ℕ → ℕ → List Value → Routine → Replaying → Bool → Replayed
  chosen n f args q s a = choice n f args q s a (nat_lt s.state.steps (frame_size q args))

  frame_redo : {n f : ℕ} {args : List Value} {σ : State} {r : Result State Call} → RanFrame p n f args σ r → IsSound σ → (k : ℕ) (cs : List Call)
      → Redo k r cs (framed_again n f args (at σ k (unmarked r.events ++ cs)) (routine_at p f))
  frame_redo (ways.NoRoom {n = n} {f = f} {args = args} {σ = σ} {q = q} e t) s k cs =
      redo_at (ap (framed_again n f args (at σ k cs)) e ∙ ap (chosen n f args q (at σ k cs)) t) (ends_redo (Halted (way_of 0 (Limited Stack))) σ k cs)
  frame_redo (ways.NoSteps {n = n} {f = f} {args = args} {σ = σ} {q = q} e t u) s k cs =
      redo_at (ap (framed_again n f args (at σ k cs)) e ∙ ap (chosen n f args q (at σ k cs)) t ∙ ap (choice n f args q (at σ k cs) false) u)
      (ends_redo (Halted (way_of 0 OutOfSteps)) (spent σ) k cs)
  frame_redo (ways.Worked {n = n} {f = f} {args = args} {σ = σ} {q = q} {y = y} e t u h) s k cs =
      redo_at (ap (framed_again n f args (at σ k (unmarked y.events ++ cs))) e ∙ ap (chosen n f args q (at σ k (unmarked y.events ++ cs))) t
      ∙ ap (choice n f args q (at σ k (unmarked y.events ++ cs)) false) u)
      (changed_redo (without_frame σ.top (frame_size q args)) (ran_redo h (sound_framed q args σ s (grind (arith, nat_tests))) k cs))

  -- a call's own work again
  pub call_redo : {n f : ℕ} {args : List Value} {σ : State} {r : Result State Call} → RanCall p n f args σ r → IsSound σ → MayEnter σ
      → (k : ℕ) (cs : List Call)
      → Redo k r cs (after_all (on_state (call_closed σ.depth)) (framed_again n f args (at (opened σ) k (unmarked r.events ++ cs)) (routine_at p f)))
  call_redo (ways.Closed {σ = σ} c h) s m k cs = changed_redo (call_closed σ.depth) (frame_redo h (sound_opened σ s m) k cs)
