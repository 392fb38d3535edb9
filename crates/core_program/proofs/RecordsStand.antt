-- A record of a run stands for the call from each sound state that agrees with it.
use Rattle.std.proofs.Common.{if◌then◌else◌, ◌+◌, ◌-◌, ◌<◌, ◌∙◌, ◌∷◌, ◌≡◌, ◌≤◌, ◌⊎◌, [], ℕ, All, Bool, List, None, Option, Some, ap, append-nil, arith, false}
use Rattle.std.proofs.Common.{fold, inl, inr, length, map, max, refl, subst, suc, sym, take, true, zero}
use Rattle.std.proofs.{Math.Nat.le-max_left, Math.Nat.le-max_right, lemmas.Bool.Decides.eqb_tells}
use Rattle.std.specs.{FinMap.get, List.cons_option, List.filter_map, List.range_with_len, Option.option_map}
use Rattle.cell_value.specs.Effects.{changes_of, heap_end, is_shared, listed, reads_of, seen_at, shared}
use Rattle.cell_value.specs.declared.{entries.Seen.Seen, entries.Touch.Touch, values.Value.Value}
use Rattle.core_program.proofs.{ActsLeave.MayEnter, ActsRepeat.Agree, Cells.shared_in_heap, Events.unmarked, OutcomesCompose.none_some}
use Rattle.core_program.proofs.{OutcomesCompose.some_same, RunAtAnyDepth.call_deeper, RunsLeave.Inner, RunsLeave.call_leaves, RunsRecord.MadeBy, Touches.IsSeen}
use Rattle.core_program.proofs.{Touches.Serves, Touches.seen_serves, Ways.RanCall, Ways.gives_inside, Ways.of_call, Ways.run_gives}
use Rattle.core_program.proofs.Effects.{effect_is, same_changes_of, same_given, same_looked, same_made, same_reads_of, same_taken, unshared}
use Rattle.core_program.proofs.RunsRepeat.{EndsByItself, Shallow, call_again}
use Rattle.core_program.specs.{ProgramRows.ProgramRows, RunLaws.StandsFor, State.IsSound, State.State, State.most_depth, WholeTables.WholeTables}
use Rattle.core_program.specs.Agree.{Agrees, EndedByItself, Shows, deepest}
use Rattle.core_program.specs.Run.{Call, End, Ended, Halted, Result, call_of, depth_enough, record_of, recorded, result_in, run_of, way_out}

-- ---- what was seen of a cell is in the list of what was seen

abbrev pairs : {X : Type 0} → (ℕ → Option X) → ℕ → ℕ → List (ℕ × X)
pairs f at n = filter_map (λ q. option_map (λ x. (q, x)) (f q)) (range_with_len at n)

tail_all : {X : Type 0} (P : X → Type 0) (o : Option X) (xs : List X) → All P (cons_option o xs) → All P xs
tail_all P None xs h = h
tail_all P (Some x) xs h = λ k d l. h (suc k) d (omega arith)

in_pairs : {X : Type 0} (P : ℕ × X → Type 0) (f : ℕ → Option X) (n at : ℕ) → All P (pairs f at n) → (a : ℕ) (x : X) → at ≤ a → a < at + n → f a ≡ Some x
    → P (a, x)
in_pairs P f zero at h a x l k e = absurd (omega arith)
in_pairs {X} P f (suc n) at h a x l k e = elim (eqb_tells a at) [
  | inl q ↦ head (f at) (ap f (sym q.1) ∙ e) h q.1
  | inr q ↦ in_pairs P f n (at + 1) (tail_all P (option_map (λ x. (at, x)) (f at)) (pairs f (at + 1) n) h) a x (let z = q.1 in omega arith) (omega arith) e
]
  where
    head : (o : Option X) → o ≡ Some x → All P (cons_option (option_map (λ x. (at, x)) o) (pairs f (at + 1) n)) → a ≡ at → P (a, x)
    head None q h r = absurd (none_some q)
    head (Some y) q h r = subst (λ b. P (b, x)) (sym r) (subst (λ y. P (at, y)) (some_same q) (h 0 (at, y) (omega arith)))

pub seen_in : (σ : State) (base : ℕ) (w : List Touch) → All (λ (addr, seen). Shows (get σ.cells addr) seen) (reads_of base w) → (a : ℕ)
    → is_shared base a ≡ true → IsSeen (get σ.cells a) (seen_at a w)
unfolding listed
seen_in σ base w h a q = by (seen_at a w) refl
  where
    by : (o : Option Seen) → seen_at a w ≡ o → IsSeen (get σ.cells a) o
    by None e = tt
    by (Some s) e = in_pairs (λ (addr, seen). Shows (get σ.cells addr) seen) (shared base (λ addr. seen_at addr w)) heap_end 0 h a s (omega arith)
        (shared_in_heap base a q)
        (ap (λ b. if b then seen_at a w else None) q ∙ e)

-- ---- the greatest depth

fold_least : (m : ℕ) (cs : List Call) → m ≤ fold max m (map (λ d. d.depth) cs)
fold_least m [] = omega arith
fold_least m (c ∷ cs) = omega (arith, fold_least (max m c.depth) cs, le-max_left m c.depth)

pub shallow_below : (d e m b : ℕ) (cs : List Call) → fold max m (map (λ d. d.depth) cs) ≤ b → e + (b - d) ≤ most_depth → Shallow d e cs
shallow_below d e m b [] h k = tt
shallow_below d e m b (c ∷ cs) h k = (omega (arith, h, k, fold_least (max m c.depth) cs, le-max_right m c.depth), shallow_below d e (max m c.depth) b cs h k)

pub by_itself : (e : End) → EndedByItself (way_out e) → EndsByItself e
by_itself (Ended out) h = tt
by_itself (Halted way) h = h

-- ---- the record stands

module _ (p : ProgramRows) (W : WholeTables p) {n f : ℕ} {args : List Value} {σ0 : State} {y : Result State Call} (ran : RanCall p n f args σ0 y)
    (s0 : IsSound σ0)
    (m0 : MayEnter σ0) where
  abbrev c : Call
  c = record_of f args σ0 y

  abbrev below : List Call
  below = unmarked y.events

  stand : (σ : State) → IsSound σ → Agrees c below σ → (depth : ℕ) → depth_enough p σ.steps ≤ depth
      → StandsFor c σ (call_of p (run_of p depth) f args σ)
  stand σ s ag depth deep =
      let inner = call_leaves p ran s0 m0 in
      let agree : Agree σ0.place σ.place y.log σ0 σ = record {
        top = sym ag.top;
        fresh = λ h. sym (ag.fresh h);
        cells = λ a. cell inner a (is_shared σ0.top a) refl;
        place = (omega arith, omega arith);
        items = λ k h. sym (ag.items k h);
      } in
      let again = call_again p ran s0 m0 σ0.place σ.place σ []
      (subst (λ w. Agree σ0.place σ.place w σ0 σ) (sym (append-nil y.log)) agree)
      (record {
        itself = by_itself y.end ag.way;
        steps = omega (arith, ag.steps);
        calls = ag.calls;
        depth = shallow_below σ0.depth σ.depth σ0.depth (deepest c below) below (omega arith) ag.depth;
      }) in
      let new : Inner σ again.run = call_leaves p (gives_inside p n (run_gives p n) f args σ again.run again.is) s
      (record { calls = omega (arith, ag.calls); depth = omega (arith, ag.depth) }) in
      record {
        run = of_call f args σ again.run;
        is = (call_deeper p W n depth f args σ deep).gives (of_call f args σ again.run) (ap (recorded f args σ) again.is);
        way = ap way_out again.end;
        result = ap result_in again.end;
        after = sym (effect_is c σ again.run.after again.run.log (suc (length again.run.events)) s new.leaves (record {
          base = sym ag.top;
          from = σ0.place;
          to = σ.place;
          log = again.log;
          steps = omega (arith, again.step.steps, inner.leaves.steps, ag.steps);
          calls = omega (arith, new.leaves.calls, inner.leaves.calls, again.step.calls);
        }));
        reads = ap (λ t. reads_of t again.run.log) ag.top ∙ sym (same_reads_of σ0.place σ.place y.log again.run.log again.log σ0.top);
        changes = ap (λ t. changes_of t again.run.log) ag.top ∙ sym (same_changes_of σ0.place σ.place y.log again.run.log again.log σ0.top);
        made = sym (same_made σ0.place σ.place y.log again.run.log again.log);
        looked = sym (same_looked σ0.place σ.place y.log again.run.log again.log);
        taken = sym (same_taken σ0.place σ.place y.log again.run.log again.log);
        given = sym (same_given σ0.place σ.place y.log again.run.log again.log);
      }
    where
      cell : Inner σ0 y → (a : ℕ) (b : Bool) → is_shared σ0.top a ≡ b → (get σ0.cells a ≡ get σ.cells a) ⊎ Serves (get σ.cells a) a y.log
      cell inner a true e = seen_serves a y.log (get σ0.cells a) (get σ.cells a) (inner.leaves.shows a e) (seen_in σ σ0.top y.log ag.cells a e)
      cell inner a false e = inl (unshared σ0 a s0 e ∙ sym (unshared σ a s (ap (λ t. is_shared t a) ag.top ∙ e)))

pub stands : (p : ProgramRows) → WholeTables p → (c : Call) (cs : List Call) → MadeBy p c cs → (σ : State) → IsSound σ → Agrees c (take c.below cs) σ
    → (depth : ℕ) → depth_enough p σ.steps ≤ depth → StandsFor c σ (call_of p (run_of p depth) c.routine c.args σ)
stands p W c cs h σ s = subst
    (λ (d : Call). Agrees d (take c.below cs) σ → (depth : ℕ) → depth_enough p σ.steps ≤ depth
    → StandsFor d σ (call_of p (run_of p depth) c.routine c.args σ)) h.record'
    (λ a. stand p W h.ran h.sound h.limits σ s (subst (λ l. Agrees (record_of c.routine c.args c.entry h.result) l σ) (sym h.calls) a))
