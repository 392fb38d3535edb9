-- The calls that a call made stand one after another in its part of the log.
use Rattle.std.proofs.Common.{◌++◌, ◌+◌, ◌∷◌, ◌≡◌, ◌≤◌, [], ℕ, List, append-nil, arith, length, length-append, subst, suc, sym, take, zero}
use Rattle.cell_value.specs.declared.{entries.Touch.Touch, values.Value.Value}
use Rattle.core_program.{proofs.OutcomesCompose.later_none, specs.Passed.args_at, specs.ProgramRows.ProgramRows, specs.State.State, specs.Tree.ActTree}
use Rattle.core_program.proofs.Ways.{Ran, RanCall, RanFrame, ending, front, of_call}
use Rattle.core_program.proofs.Ways as ways
use Rattle.core_program.specs.Run.{Call, End, Marked, Result, later_by}
use Rattle.output_slice.proofs.{CutsAreWalks.after_front, MarksOfRuns.MadeAt}
use Rattle.output_slice.specs.Children.{Ordered}

-- from an earlier place on as well
ordered_from : (at to skip end : ℕ) (es : List (Marked Call)) → to ≤ at → Ordered at skip end es → Ordered to skip end es
ordered_from at to skip end [] l h = omega (arith, l, h)
ordered_from at to zero end (e ∷ es) l h = (omega (arith, l, h.0), h.1)
ordered_from at to (suc skip) end (e ∷ es) l h = ordered_from at to skip end es l h

-- all later by as much
ordered_later : (n at skip end : ℕ) (es : List (Marked Call)) → Ordered at skip end es → Ordered (n + at) skip (n + end) (later_by n es)
ordered_later n at skip end [] h = omega (arith, h)
ordered_later n at zero end (e ∷ es) h = (
  omega (arith, h.0),
  subst (λ k. Ordered k e.event.below (n + end) (later_by n es))
      (let q : n + (e.mark + length e.event.log) ≡ (n + e.mark) + length e.event.log = omega arith in q)
      (ordered_later n (e.mark + length e.event.log) e.event.below end es h.1),
)
ordered_later n at (suc skip) end (e ∷ es) h = ordered_later n at skip end es h

-- past calls that are below one that was met
ordered_skip : (at end : ℕ) (ds es : List (Marked Call)) → Ordered at 0 end es → Ordered at (length ds) end (ds ++ es)
ordered_skip at end [] es h = h
ordered_skip at end (d ∷ ds) es h = ordered_skip at end ds es h

-- so do those of a run, whatever comes after it
record Orders (r : Result State Call) : Type 0 where
  on : (end : ℕ) (es : List (Marked Call)) → Ordered 0 0 end es → Ordered 0 0 (length r.log + end) (r.events ++ later_by (length r.log) es)

orders_ending : (e : End) (σ : State) → Orders (ending e σ)
orders_ending e σ = record {
  on = λ end es h. subst (λ k. Ordered 0 0 k (later_by 0 es)) (let q : end ≡ 0 + end = omega arith in q) (subst (Ordered 0 0 end) (sym (later_none es)) h);
}

orders_front : (w : List Touch) (r : Result State Call) → Orders r → Orders (front w [] r)
orders_front w r h = record {
  on = λ end es g. subst (Ordered 0 0 (length (w ++ r.log) + end)) (sym (after_front w [] r es))
      (ordered_from (length w + 0) 0 0 (length (w ++ r.log) + end) (later_by (length w) (r.events ++ later_by (length r.log) es)) (omega arith)
      (subst (λ k. Ordered (length w + 0) 0 k (later_by (length w) (r.events ++ later_by (length r.log) es)))
      (omega (arith, length-append w r.log))
      (ordered_later (length w) 0 0 (length r.log + end) (r.events ++ later_by (length r.log) es) (h.on end es g))));
}

orders_then : (y z : Result State Call) → Orders y → Orders z → Orders (front y.log y.events z)
orders_then y z f g = record {
  on = λ end es h. subst (Ordered 0 0 (length (y.log ++ z.log) + end)) (sym (after_front y.log y.events z es))
      (subst (λ k. Ordered 0 0 k (y.events ++ later_by (length y.log) (z.events ++ later_by (length z.log) es)))
      (omega (arith, length-append y.log z.log))
      (f.on (length z.log + end) (z.events ++ later_by (length z.log) es) (g.on end es h)));
}

orders_call : (f : ℕ) (args : List Value) (σ : State) (y : Result State Call) → Orders (of_call f args σ y)
orders_call f args σ y = record {
  on = λ end es h. (
    omega arith,
    ordered_skip (0 + length y.log) (length y.log + end) y.events (later_by (length y.log) es)
        (subst (λ k. Ordered k 0 (length y.log + end) (later_by (length y.log) es)) (let q : length y.log + 0 ≡ 0 + length y.log = omega arith in q)
        (ordered_later (length y.log) 0 0 end es h)),
  );
}

module _ (p : ProgramRows) where
  orders_in : {n : ℕ} {t : ActTree} {σ : State} {r : Result State Call} → Ran p n t σ r → Orders r
  orders_in (ways.Returned {σ = σ}) = orders_ending _ σ
  orders_in (ways.Stopped {σ = σ}) = orders_ending _ σ
  orders_in (ways.Refused {w = w} {τ = τ} q) = orders_front w (ending _ τ) (orders_ending _ τ)
  orders_in (ways.Acted {w = w} {r = y} q h) = orders_front w y (orders_in h)
  orders_in (ways.PartStopped h e) = orders_in h
  orders_in (ways.PartEnded {r = y} {s = z} h e g) = orders_then y z (orders_in h) (orders_in g)
  orders_in (ways.AtLimit {σ = σ} q) = orders_ending _ σ
  orders_in (ways.CallStopped {e = e} {σ = σ} {y = y} q h d) = orders_call e.routine (args_at e σ.top) σ y
  orders_in (ways.CallEnded {e = e} {σ = σ} {y = y} {s = z} q h d g) =
      orders_then (of_call e.routine (args_at e σ.top) σ y) z (orders_call e.routine (args_at e σ.top) σ y) (orders_in g)
  orders_in (ways.NotBegun {w = w} {τ = τ} q) = orders_front w (ending _ τ) (orders_ending _ τ)
  orders_in (ways.Began {w = w} {r = y} q h) = orders_front w (front [] [] y) (orders_front [] y (orders_in h))

  ordered_whole : (r : Result State Call) → Orders r → Ordered 0 0 (length r.log) r.events
  ordered_whole r h = subst (λ l. Ordered 0 0 (length r.log) l) (append-nil r.events)
      (subst (λ k. Ordered 0 0 k (r.events ++ [])) (let q : length r.log + 0 ≡ length r.log = omega arith in q) (h.on 0 [] (omega arith)))

  ordered_framed : {n f : ℕ} {args : List Value} {σ : State} {r : Result State Call} → RanFrame p n f args σ r → Ordered 0 0 (length r.log) r.events
  ordered_framed (ways.NoRoom e t) = omega arith
  ordered_framed (ways.NoSteps e t u) = omega arith
  ordered_framed (ways.Worked {y = y} e t u h) = ordered_whole y (orders_in h)

  ordered_called : {n f : ℕ} {args : List Value} {σ : State} {r : Result State Call} → RanCall p n f args σ r → Ordered 0 0 (length r.log) r.events
  ordered_called (ways.Closed c h) = ordered_framed h

-- the calls that a call of a run made
pub children_in_order : (p : ProgramRows) (e : Marked Call) (es : List (Marked Call)) → MadeAt p e es
    → Ordered e.mark 0 (e.mark + length e.event.log) (take e.event.below es)
children_in_order p e es h = subst (λ (c : Call). Ordered e.mark 0 (e.mark + length c.log) (take e.event.below es)) h.record'
    (subst (Ordered e.mark 0 (e.mark + length h.result.log)) (sym h.calls)
    (subst (λ k. Ordered k 0 (e.mark + length h.result.log) (later_by e.mark h.result.events)) (let q : e.mark + 0 ≡ e.mark = omega arith in q)
    (ordered_later e.mark 0 0 (length h.result.log) h.result.events (ordered_called p h.ran))))
