-- More fuel gives the same result.
use Rattle.std.proofs.Common.{if◌then◌else◌, ◌+◌, ◌∙◌, ◌≡◌, [], ℕ, Bool, List, None, Option, Some, ap, arith, false, nat_lt, refl, subst, suc, sym, true, zero}
use Rattle.cell_value.specs.declared.{entries.Touch.Touch, values.Value.Value, ways_out.Which.Which}
use Rattle.core_program.specs.{Layer.layer, Passed.args_at, Passed.cells_entered, State.State, State.stack_end, declared.program.Routine.Routine}
use Rattle.core_program.specs.Acts.{ActResult, Spend, Stops, Went, limit_passed, perform}
use Rattle.core_program.specs.ProgramRows.{ProgramRows, routine_at}
use Rattle.core_program.specs.Run.{End, Ended, Halted, Marked, Outcome, Result, Rules, after_all, at_work, call_closed, call_of, frame_size, if_allowed}
use Rattle.core_program.specs.Run.{in_frame, in_front, joined, on_done, on_end, opened, plain, recorded, run_of, walk, whole, with_frame, within, without_frame}
use Rattle.core_program.specs.Tree.{ActTree, Do, Enter, Halt, Line, Meaningless, Out, Part, Ret, Sub}

-- what the first gives, the second gives
pub record Less {A : Type 0} (a b : Option A) : Type 0 where
  pub gives : (r : A) → a ≡ Some r → b ≡ Some r

pub less_none : {A : Type 0} (b : Option A) → Less None b
less_none b = record { gives = λ r e. absurd (let x : ⊥ = cc in x) }

pub less_same : {A : Type 0} (a : Option A) → Less a a
less_same a = record { gives = λ r e. e }

module _ {S E : Type 0} where
  pub in_front_less : (w : List Touch) (es : List (Marked E)) (a b : Option (Result S E)) → Less a b → Less (in_front w es a) (in_front w es b)
  in_front_less w es None b h = less_none _
  in_front_less w es (Some x) b h = record { gives = λ r e. ap (in_front w es) (h.gives x refl) ∙ e }

  on_end_less : (end : End) (r : Result S E) (f g : Out → S → Option (Result S E)) → ((out : Out) (σ : S) → Less (f out σ) (g out σ))
      → Less (on_end end r f) (on_end end r g)
  on_end_less (Ended out) r f g h = in_front_less r.log r.events _ _ (h out r.after)
  on_end_less (Halted way) r f g h = less_same _

  pub joined_less : (a b : Option (Result S E)) (f g : Out → S → Option (Result S E)) → Less a b → ((out : Out) (σ : S) → Less (f out σ) (g out σ))
      → Less (joined a f) (joined b g)
  joined_less None b f g h k = less_none _
  joined_less (Some x) b f g h k = record { gives = λ r e. ap (λ y. joined y g) (h.gives x refl) ∙ (on_end_less x.end x f g k).gives r e }

  on_done_less : {A : Type 0} (rules : Rules S E) (line : ℕ) (σ : S) (d : ActResult A) (f g : A → S → Option (Result S E))
      → ((x : A) (τ : S) → Less (f x τ) (g x τ))
      → Less (on_done rules line σ d f) (on_done rules line σ d g)
  on_done_less rules line σ (Went x w τ) f g h = in_front_less w [] _ _ (h x _)
  on_done_less rules line σ (Stops why w τ) f g h = less_same _

  allowed_less : (o : Option Which) (σ : S) (a b : Option (Result S E)) → Less a b → Less (if_allowed o σ a) (if_allowed o σ b)
  allowed_less None σ a b h = h
  allowed_less (Some which) σ a b h = less_same _

  pub walk_less : (rules : Rules S E) (sub sub' : Part → S → Option (Result S E)) (call call' : ℕ → List Value → S → Option (Result S E))
      → ((part : Part) (σ : S) → Less (sub part σ) (sub' part σ)) → ((f : ℕ) (args : List Value) (σ : S) → Less (call f args σ) (call' f args σ))
      → (t : ActTree) (σ : S) → Less (walk rules sub call t σ) (walk rules sub' call' t σ)
  walk_less rules sub sub' call call' hs hc (Ret out) σ = less_same _
  walk_less rules sub sub' call call' hs hc (Halt line why) σ = less_same _
  walk_less rules sub sub' call call' hs hc Meaningless σ = less_none _
  walk_less rules sub sub' call call' hs hc (Do line act next) σ =
      on_done_less rules line σ (perform act (rules.state_of σ)) _ _ (λ x τ. walk_less rules sub sub' call call' hs hc (next x) τ)
  walk_less rules sub sub' call call' hs hc (Sub part next) σ =
      joined_less _ _ _ _ (hs part σ) (λ out τ. walk_less rules sub sub' call call' hs hc (next out) τ)
  walk_less rules sub sub' call call' hs hc (Enter e next) σ =
      allowed_less (limit_passed (rules.state_of σ) (cells_entered e)) σ _ _
      (joined_less _ _ _ _ (hc e.routine (args_at e (rules.state_of σ).top) σ) (λ out τ. walk_less rules sub sub' call call' hs hc (next out) τ))
  walk_less rules sub sub' call call' hs hc (Line line next) σ =
      on_done_less rules line σ (perform (Spend 1) (rules.state_of σ)) _ _
      (λ x τ. in_front_less [] (rules.line line) _ _ (walk_less rules sub sub' call call' hs hc next τ))

pub recorded_less : (f : ℕ) (args : List Value) (σ : State) (a b : Outcome) → Less a b → Less (recorded f args σ a) (recorded f args σ b)
recorded_less f args σ None b h = less_none _
recorded_less f args σ (Some x) b h = record { gives = λ r e. ap (recorded f args σ) (h.gives x refl) ∙ e }

pub after_less : (change : State → State) (a b : Outcome) → Less a b → Less (after_all change a) (after_all change b)
after_less change None b h = less_none _
after_less change (Some x) b h = record { gives = λ r e. ap (after_all change) (h.gives x refl) ∙ e }

if_less : (t : Bool) (a b c d : Outcome) → Less a c → Less b d → Less (if t then a else b) (if t then c else d)
if_less true a b c d h k = h
if_less false a b c d h k = k

frame_less : (p : ProgramRows) (run run' : ActTree → State → Outcome) → ((t : ActTree) (σ : State) → Less (run t σ) (run' t σ)) → (f : ℕ) (args : List Value)
    (σ : State) (o : Option Routine) → Less (in_frame (at_work p run f) args σ o) (in_frame (at_work p run' f) args σ o)
frame_less p run run' h f args σ None = less_same _
frame_less p run run' h f args σ (Some r) =
    if_less (nat_lt stack_end (σ.top + frame_size r args)) _ _ _ _ (less_same _)
    (if_less (nat_lt σ.steps (frame_size r args)) _ _ _ _ (less_same _)
    (after_less (without_frame σ.top (frame_size r args)) _ _ (h (whole p f σ.top r) (with_frame r args σ))))

pub call_less : (p : ProgramRows) (run run' : ActTree → State → Outcome) → ((t : ActTree) (σ : State) → Less (run t σ) (run' t σ))
    → (f : ℕ) (args : List Value) (σ : State) → Less (call_of p run f args σ) (call_of p run' f args σ)
call_less p run run' h f args σ =
    recorded_less f args σ _ _ (after_less (call_closed σ.depth) _ _ (frame_less p run run' h f args (opened σ) (routine_at p f)))

-- a call does no less where the trees that it runs do no less
pub record Grows {S E : Type 0} (rules : Rules S E) : Type 0 where
  pub call : (run run' : ActTree → S → Option (Result S E)) → ((t : ActTree) (σ : S) → Less (run t σ) (run' t σ)) → (f : ℕ) (args : List Value) (σ : S)
      → Less (rules.call run f args σ) (rules.call run' f args σ)

pub plain_grows : (p : ProgramRows) → Grows (plain p)
plain_grows p = record { call = call_less p }

-- one level more
pub run_less : {S E : Type 0} (rules : Rules S E) → Grows rules → (p : ProgramRows) (n : ℕ) (t : ActTree) (σ : S)
    → Less (within rules p n t σ) (within rules p (suc n) t σ)
run_less rules g p zero t σ = less_none _
run_less rules g p (suc n) t σ = walk_less rules _ _ _ _ (λ part τ. run_less rules g p n (layer p part) τ)
    (λ f args τ. g.call (within rules p n) (within rules p (suc n)) (run_less rules g p n) f args τ) t σ

-- this many more levels
pub more_fuel : (p : ProgramRows) (n m : ℕ) (t : ActTree) (σ : State) (r : Result State _) → run_of p n t σ ≡ Some r → run_of p (n + m) t σ ≡ Some r
more_fuel p n zero t σ r e = subst (λ k. run_of p k t σ ≡ Some r) (let q : n ≡ n + zero = omega arith in q) e
more_fuel p n (suc m) t σ r e =
    subst (λ k. run_of p k t σ ≡ Some r) (let q : suc (n + m) ≡ n + suc m = omega arith in q)
    ((run_less (plain p) (plain_grows p) p (n + m) t σ).gives r (more_fuel p n m t σ r e))

-- two depths that both give a result give the same
pub same_result : (p : ProgramRows) (n m : ℕ) (t : ActTree) (σ : State) (r s : Result State _) → run_of p n t σ ≡ Some r → run_of p m t σ ≡ Some s → r ≡ s
same_result p n m t σ r s e f =
    let a : run_of p (n + m) t σ ≡ Some r = more_fuel p n m t σ r e in
    let b : run_of p (n + m) t σ ≡ Some s = subst (λ k. run_of p k t σ ≡ Some s) (let q : m + n ≡ n + m = omega arith in q) (more_fuel p m n t σ s f) in
    let c : Some r ≡ Some s = sym a ∙ b in cc
