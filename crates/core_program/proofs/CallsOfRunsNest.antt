-- The calls of a run lie in one another as in a forest, all of them in the first, and their parts of the log where
-- their marks say.
use Rattle.std.proofs.Common.{if◌then◌else◌, ◌++◌, ◌+◌, ◌<◌, ◌∙◌, ◌∷◌, ◌≡◌, [], ℕ, Bool, List, None, Option, Some, ap, append-nil, append_assoc, arith, false}
use Rattle.std.proofs.Common.{length, length-append, nat_lt, refl, subst, suc, sym, true, zero}
use Rattle.std.{proofs.lemmas.List.length-map, proofs.lemmas.List.map-append, proofs.lemmas.Option.same_Some, specs.List.All}
use Rattle.std.proofs.lemmas.List.Elements.{All-append, All-cons, All-map, All-nil, All-weaker}
use Rattle.cell_value.specs.declared.{entries.Touch.Touch, values.Value.Value, values.Value.TheVariants.Nil, ways_out.Which.Which}
use Rattle.core_program.proofs.NestedCallsAreIntervals.{Forest, forest_append, forest_call, forest_none}
use Rattle.core_program.specs.{Layer.layer, Numbering.StandsAt, Numbering.belows, Numbering.last_below, Passed.args_at, Passed.cells_entered}
use Rattle.core_program.specs.{ProgramRows.ProgramRows, ProgramRows.routine_at, State.State, State.stack_end, declared.program.Routine.Routine}
use Rattle.core_program.specs.Acts.{ActResult, Spend, Stops, Went, limit_passed, perform, spent}
use Rattle.core_program.specs.Run.{Call, End, Ended, Halted, Marked, Outcome, Result, after_all, at_work, block, call_closed, call_of, depth_enough, ends}
use Rattle.core_program.specs.Run.{frame_size, if_allowed, in_frame, in_front, joined, later_by, on_done, on_end, opened, plain, record_of, recorded, run}
use Rattle.core_program.specs.Run.{run_of, start, walk, whole, with_frame, without_frame}
use Rattle.core_program.specs.Tree.{ActTree, Do, Enter, Halt, Line, Meaningless, Out, Part, Ret, Sub, way_of}

-- where entries stand once others are before or after them
pub stands_on : (log more : List Touch) (mark : ℕ) (w : List Touch) → StandsAt log mark w → StandsAt (log ++ more) mark w
stands_on log more mark w h = record {
  before = h.before;
  later = h.later ++ more;
  is = ap (λ l. l ++ more) h.is ∙ append_assoc h.before (w ++ h.later) more ∙ ap (λ l. h.before ++ l) (append_assoc w h.later more);
  at = h.at;
}

pub stands_later : (front log : List Touch) (mark : ℕ) (w : List Touch) → StandsAt log mark w → StandsAt (front ++ log) (length front + mark) w
stands_later front log mark w h = record {
  before = front ++ h.before;
  later = h.later;
  is = ap (λ l. front ++ l) h.is ∙ sym (append_assoc front h.before (w ++ h.later));
  at = let e = length-append front h.before in let m = h.at in omega (arith, e, m);
}

-- each call's entries of the log stand where its mark says
abbrev pub Stand : List Touch → List (Marked Call) → Type 0
Stand log es = All (λ c. StandsAt log c.mark c.event.log) es

all_on : (log more : List Touch) (es : List (Marked Call)) → Stand log es → Stand (log ++ more) es
all_on log more es h = All-weaker _ _ (λ e s. stands_on log more e.mark e.event.log s) es h

all_later : (front log : List Touch) (es : List (Marked Call)) → Stand log es → Stand (front ++ log) (later_by (length front) es)
all_later front log es h = All-map (λ c. StandsAt (front ++ log) c.mark c.event.log) (λ e. record { mark = length front + e.mark; event = e.event }) es
    (All-weaker _ _ (λ e s. stands_later front log e.mark e.event.log s) es h)

pub belows_later : (n : ℕ) (es : List (Marked Call)) → belows (later_by n es) ≡ belows es
belows_later n [] = refl
belows_later n (e ∷ es) = ap (λ bs. e.event.below ∷ bs) (belows_later n es)

-- calls that lie in one another as in a forest, and their parts of the log
record Fits (log : List Touch) (es : List (Marked Call)) : Type 0 where
  forest : Forest (belows es)
  stand : Stand log es

record Good (x : Outcome) : Type 0 where
  good : (r : Result State Call) → x ≡ Some r → Fits r.log r.events

good_none : Good None
good_none = record { good = λ r e. absurd (let x : ⊥ = cc in x) }

good_some : (r : Result State Call) → Fits r.log r.events → Good (Some r)
good_some r f = record { good = λ s e. subst (λ q. Fits q.log q.events) (same_Some r s e) f }

fits_none : (w : List Touch) → Fits w []
fits_none w = record { forest = forest_none; stand = All-nil _ }

good_ends : (e : End) (σ : State) → Good (ends e σ)
good_ends e σ = good_some _ (fits_none [])

good_front : (w : List Touch) (es : List (Marked Call)) (x : Outcome) → Fits w es → Good x → Good (in_front w es x)
good_front w es None f g = good_none
good_front w es (Some r) f g =
    let h = g.good r refl in
    good_some _ (record {
      forest = subst Forest (sym (map-append (λ c. c.event.below) es (later_by (length w) r.events)
          ∙ ap (λ bs. belows es ++ bs) (belows_later (length w) r.events)))
          (forest_append (belows es) (belows r.events) f.forest h.forest);
      stand = All-append (λ c. StandsAt (w ++ r.log) c.mark c.event.log) es (later_by (length w) r.events) (all_on w r.log es f.stand)
          (all_later w r.log r.events h.stand);
    })

good_end : (e : End) (r : Result State Call) (k : Out → State → Outcome) → Fits r.log r.events → ((out : Out) (τ : State) → Good (k out τ))
    → Good (on_end e r k)
good_end (Ended out) r k f h = good_front r.log r.events _ f (h out r.after)
good_end (Halted way) r k f h = good_some r f

good_joined : (x : Outcome) (k : Out → State → Outcome) → Good x → ((out : Out) (τ : State) → Good (k out τ)) → Good (joined x k)
good_joined None k g h = good_none
good_joined (Some r) k g h = good_end r.end r k (g.good r refl) h

good_done : {A : Type 0} (p : ProgramRows) (line : ℕ) (σ : State) (d : ActResult A) (go : A → State → Outcome) → ((x : A) (τ : State) → Good (go x τ))
    → Good (on_done (plain p) line σ d go)
good_done p line σ (Went x w τ) go h = good_front w [] _ (fits_none w) (h x τ)
good_done p line σ (Stops why w τ) go h = good_front w [] _ (fits_none w) (good_ends (Halted (way_of line why)) τ)

good_after : (change : State → State) (x : Outcome) → Good x → Good (after_all change x)
good_after change None g = good_none
good_after change (Some r) g = good_some _ (g.good r refl)

good_recorded : (f : ℕ) (args : List Value) (σ : State) (x : Outcome) → Good x → Good (recorded f args σ x)
good_recorded f args σ None g = good_none
good_recorded f args σ (Some r) g =
    let h = g.good r refl in
    good_some _ (record {
      forest = forest_call (length r.events) (belows r.events) (sym (length-map r.events (λ c. c.event.below))) h.forest;
      stand = All-cons (λ c. StandsAt r.log c.mark c.event.log) (record { mark = 0; event = record_of f args σ r }) r.events
          (record { before = []; later = []; is = sym (append-nil r.log); at = refl }) h.stand;
    })

good_allowed : (o : Option Which) (σ : State) (x : Outcome) → Good x → Good (if_allowed o σ x)
good_allowed None σ x g = g
good_allowed (Some which) σ x g = good_ends _ σ

good_if : (b : Bool) (x y : Outcome) → Good x → Good y → Good (if b then x else y)
good_if true x y g h = g
good_if false x y g h = h

good_frame : (p : ProgramRows) (go : ActTree → State → Outcome) → ((t : ActTree) (σ : State) → Good (go t σ)) → (f : ℕ) (args : List Value) (σ : State)
    (o : Option Routine) → Good (in_frame (at_work p go f) args σ o)
good_frame p go h f args σ None = good_none
good_frame p go h f args σ (Some r) =
    good_if (nat_lt stack_end (σ.top + frame_size r args)) _ _ (good_ends _ σ)
    (good_if (nat_lt σ.steps (frame_size r args)) _ _ (good_ends _ (spent σ))
    (good_after (without_frame σ.top (frame_size r args)) _ (h (whole p f σ.top r) (with_frame r args σ))))

good_call : (p : ProgramRows) (go : ActTree → State → Outcome) → ((t : ActTree) (σ : State) → Good (go t σ)) → (f : ℕ) (args : List Value) (σ : State)
    → Good (call_of p go f args σ)
good_call p go h f args σ = good_recorded f args σ _ (good_after (call_closed σ.depth) _ (good_frame p go h f args (opened σ) (routine_at p f)))

good_walk : (p : ProgramRows) (sub : Part → State → Outcome) (call : ℕ → List Value → State → Outcome) → ((part : Part) (σ : State) → Good (sub part σ))
    → ((f : ℕ) (args : List Value) (σ : State) → Good (call f args σ))
    → (t : ActTree) (σ : State) → Good (walk (plain p) sub call t σ)
good_walk p sub call hs hc (Ret out) σ = good_ends _ σ
good_walk p sub call hs hc (Halt line why) σ = good_ends _ σ
good_walk p sub call hs hc Meaningless σ = good_none
good_walk p sub call hs hc (Do line act next) σ = good_done p line σ (perform act σ) _ (λ x τ. good_walk p sub call hs hc (next x) τ)
good_walk p sub call hs hc (Sub part next) σ = good_joined (sub part σ) _ (hs part σ) (λ out τ. good_walk p sub call hs hc (next out) τ)
good_walk p sub call hs hc (Enter e next) σ = good_allowed (limit_passed σ (cells_entered e)) σ _
    (good_joined (call e.routine (args_at e σ.top) σ) _ (hc e.routine (args_at e σ.top) σ) (λ out τ. good_walk p sub call hs hc (next out) τ))
good_walk p sub call hs hc (Line line next) σ = good_done p line σ (perform (Spend 1) σ) _
    (λ x τ. good_front [] [] _ (fits_none []) (good_walk p sub call hs hc next τ))

good_run : (p : ProgramRows) (n : ℕ) (t : ActTree) (σ : State) → Good (run_of p n t σ)
good_run p zero t σ = good_none
good_run p (suc n) t σ = good_walk p _ _ (λ part τ. good_run p n (layer p part) τ) (λ f args τ. good_call p (run_of p n) (good_run p n) f args τ) t σ

pub forest_of : (p : ProgramRows) (input : List ℕ) (budget : ℕ) (r : Result State Call) → run p input budget ≡ Some r → Forest (belows r.events)
forest_of p input budget r e = ((good_run p (depth_enough p budget) block (start input budget)).good r e).forest

pub stand_of : (p : ProgramRows) (input : List ℕ) (budget : ℕ) (r : Result State Call) → run p input budget ≡ Some r → Stand r.log r.events
stand_of p input budget r e = ((good_run p (depth_enough p budget) block (start input budget)).good r e).stand

-- all calls are in the first one
pub record Rooted (bs : List ℕ) : Type 0 where
  pub first : last_below bs 0 + 1 ≡ length bs

abbrev first_event : List Value → State → Result State Call → Marked Call
first_event args σ q = record { mark = 0; event = record_of 0 args σ q }

root_front : (args : List Value) (x : Outcome) (σ : State) (r : Result State Call) → joined (recorded 0 args σ x) (λ out τ. ends (Ended out) τ) ≡ Some r
    → Rooted (belows r.events)
root_front args None σ r e = absurd (let x : ⊥ = cc in x)
root_front args (Some q) σ r e = go q.end e
  where
    root : Rooted (belows (first_event args σ q ∷ q.events))
    root = record { first = let x = length-map q.events (λ c. c.event.below) in omega (arith, x) }

    root-nil : Rooted (belows ((first_event args σ q ∷ q.events) ++ []))
    root-nil = subst (λ es. Rooted (belows es)) (sym (append-nil (first_event args σ q ∷ q.events))) root

    go : (e : End) → on_end e (record q { events = first_event args σ q ∷ q.events }) (λ out τ. ends (Ended out) τ) ≡ Some r → Rooted (belows r.events)
    go (Ended out) h = subst (λ s. Rooted (belows s.events)) (same_Some _ r h) root-nil
    go (Halted way) h = subst (λ s. Rooted (belows s.events)) (same_Some _ r h) root

root_run : (p : ProgramRows) (n : ℕ) (input : List ℕ) (budget : ℕ) (r : Result State Call) → run_of p n block (start input budget) ≡ Some r
    → Rooted (belows r.events)
root_run p zero input budget r h = absurd (let x : ⊥ = cc in x)
root_run p (suc n) input budget r h = root_front (Nil ∷ []) _ (start input budget) r h

pub rooted : (p : ProgramRows) (input : List ℕ) (budget : ℕ) (r : Result State Call) → run p input budget ≡ Some r → Rooted (belows r.events)
rooted p input budget r h = root_run p (depth_enough p budget) input budget r h

pub has_call : (p : ProgramRows) (input : List ℕ) (budget : ℕ) (r : Result State Call) → run p input budget ≡ Some r → 0 < length (belows r.events)
has_call p input budget r h = let x = (rooted p input budget r h).first in omega (arith, x)
