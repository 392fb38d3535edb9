-- From a tree's next stop on, its run is the rest's.
use Rattle.std.proofs.Common.{◌++◌, ◌∙◌, ◌≡◌, [], ℕ, List, None, Option, Some, ap, append-nil, append_assoc, refl, suc, sym, zero}
use Rattle.cell_value.specs.declared.{entries.Touch.Touch, values.Value.Value, ways_out.WayOut.WayOut, ways_out.Which.Which}
use Rattle.core_program.proofs.MoreDepthSameResult.{Grows, Less, in_front_less, joined_less, less_same, run_less}
use Rattle.core_program.proofs.OutcomesCompose.{front_nothing, front_twice, less_is, less_then, none_some, some_same, walk_bind}
use Rattle.core_program.specs.{Layer.layer, Passed.Entering, Passed.args_at, Passed.cells_entered, ProgramRows.ProgramRows, State.State}
use Rattle.core_program.specs.Acts.{Act, ActResult, Answer, Spend, Stops, Went, limit_passed, perform}
use Rattle.core_program.specs.Run.{Ended, Halted, Result, Rules, ends, if_allowed, in_front, joined, on_done, within}
use Rattle.core_program.specs.Tree.{ActTree, Do, Enter, Halt, Line, Meaningless, Out, Ret, Sub, bind, way_of}
use Rattle.eval_ops.specs.Machines.{Moment}
use Rattle.evaluator.specs.Stops.{AtCall, AtEnd, AtLine, Stop, at_call, next_stop, on_act}

-- a call that passes no limit, and what follows it
abbrev pub met : {S E : Type 0} → Rules S E → ProgramRows → ℕ → ℕ → List Value → (Out → ActTree) → S → Option (Result S E)
met rules p zero f args next σ = None
met rules p (suc n) f args next σ =
    joined (rules.call (λ u τ. within rules p n u τ) f args σ) (λ out τ. within rules p (suc n) (next out) τ)

-- what is left at a stop
abbrev pub finish : {S E : Type 0} → Rules S E → ProgramRows → ℕ → Stop → S → Option (Result S E)
finish rules p n (AtLine line rest) σ = in_front [] (rules.line line) (within rules p n rest σ)
finish rules p n (AtCall f args next) σ = met rules p n f args next σ
finish rules p n (AtEnd end) σ = ends end σ

-- what the acts do to a state, they do to the state in it
pub record IsLens {S E : Type 0} (rules : Rules S E) : Type 0 where
  pub set_get : (σ : S) (τ : State) → rules.state_of (rules.with_state σ τ) ≡ τ
  pub get_set : (σ : S) → rules.with_state σ (rules.state_of σ) ≡ σ
  pub set_set : (σ : S) (τ υ : State) → rules.with_state (rules.with_state σ τ) υ ≡ rules.with_state σ υ

abbrev Found : Type 0
Found = Option (Stop × Moment)

unpack : (a b : Stop × Moment) → Some a ≡ Some b → (a.0 ≡ b.0) × (a.1 ≡ b.1)
unpack a b h = let e : a ≡ b = some_same h in (ap (λ x. x.0) e, ap (λ x. x.1) e)

module _ {S E : Type 0} (rules : Rules S E) (grows : Grows rules) (lens : IsLens rules) where
  pub record Runs (p : ProgramRows) (t : ActTree) (s : S) (l l' : List Touch) (r : Result S E) : Type 0 where
    pub depth : ℕ
    pub log : List Touch
    pub grown : l' ≡ l ++ log
    pub is : within rules p (suc depth) t s ≡ in_front log [] (Some r)

  -- a tree that stops at once
  runs_stop : (p : ProgramRows) (t : ActTree) (s : S) (l : List Touch) (first stop : Stop) (m' : Moment) (n : ℕ) (r : Result S E)
      → Less (finish rules p n first s) (within rules p (suc n) t s)
      → ◌≡◌ {A = Found} (Some (first, record { state = rules.state_of s; log = l })) (Some (stop, m'))
      → finish rules p n stop (rules.with_state s m'.state) ≡ Some r → Runs p t s l m'.log r
  runs_stop p t s l first stop m' n r g h f =
      let e = unpack (first, record { state = rules.state_of s; log = l }) (stop, m') h in
      record {
        depth = n;
        log = [];
        grown = ap (λ x. x.log) (sym e.1) ∙ sym (append-nil l);
        is = g.gives r (ap (λ z. finish rules p n z s) e.0 ∙ ap (finish rules p n stop) (sym (lens.get_set s) ∙ ap (λ x. rules.with_state s x.state) e.1) ∙ f)
            ∙ sym (front_nothing (Some r));
      }

  runs_act : (p : ProgramRows) (line : ℕ) (act : Act) (next : Answer act → ActTree) (s : S) (l : List Touch) (k n : ℕ) (stop : Stop) (m' : Moment)
      (r : Result S E)
      → ((x : Answer act) (σ : State) (l1 : List Touch) → next_stop p k (next x) (record { state = σ; log = l1 }) ≡ Some (stop, m')
      → Runs p (next x) (rules.with_state s σ) l1 m'.log r)
      → (d : ActResult (Answer act)) → perform act (rules.state_of s) ≡ d → on_act line l d (λ x m1. next_stop p k (next x) m1) ≡ Some (stop, m')
      → finish rules p n stop (rules.with_state s m'.state) ≡ Some r → Runs p (Do line act next) s l m'.log r
  runs_act p line act next s l k n stop m' r ih (Went x w τ) e h f =
      let y = ih x τ (l ++ w) h in
      record {
        depth = y.depth;
        log = w ++ y.log;
        grown = y.grown ∙ append_assoc l w y.log;
        is = ap (λ d. on_done rules line s d (λ x τ. within rules p (suc y.depth) (next x) τ)) e ∙ ap (in_front w []) y.is
            ∙ sym (front_twice w y.log [] [] (Some r));
      }
  runs_act p line act next s l k n stop m' r ih (Stops why w τ) e h f =
      let u = unpack (AtEnd (Halted (way_of line why)), record { state = τ; log = l ++ w }) (stop, m') h in
      record {
        depth = zero;
        log = w;
        grown = ap (λ x. x.log) (sym u.1);
        is = ap (λ d. on_done rules line s d (λ x τ. within rules p (suc zero) (next x) τ)) e
            ∙ ap (in_front w [])
            (ap (λ z. finish rules p n z (rules.with_state s τ)) u.0 ∙ ap (λ x. finish rules p n stop (rules.with_state s x.state)) u.1 ∙ f);
      }

  -- a statement begins, or there is no step for it
  runs_line : (p : ProgramRows) (line : ℕ) (next : ActTree) (s : S) (l : List Touch) (n : ℕ) (stop : Stop) (m' : Moment) (r : Result S E)
      (d : ActResult (Unit {0})) → perform (Spend 1) (rules.state_of s) ≡ d → on_act line l d (λ x m1. Some (AtLine line next, m1)) ≡ Some (stop, m')
      → finish rules p n stop (rules.with_state s m'.state) ≡ Some r → Runs p (Line line next) s l m'.log r
  runs_line p line next s l n stop m' r (Went x w τ) e h f =
      let u = unpack (AtLine line next, record { state = τ; log = l ++ w }) (stop, m') h in
      record {
        depth = n;
        log = w;
        grown = ap (λ x. x.log) (sym u.1);
        is = ap (λ d. on_done rules line s d (λ x τ. in_front [] (rules.line line) (within rules p (suc n) next τ))) e
            ∙ ap (in_front w []) ((in_front_less [] (rules.line line) _ _ (run_less rules grows p n next (rules.with_state s τ))).gives r
            (ap (λ z. finish rules p n z (rules.with_state s τ)) u.0 ∙ ap (λ x. finish rules p n stop (rules.with_state s x.state)) u.1 ∙ f));
      }
  runs_line p line next s l n stop m' r (Stops why w τ) e h f =
      let u = unpack (AtEnd (Halted (way_of line why)), record { state = τ; log = l ++ w }) (stop, m') h in
      record {
        depth = zero;
        log = w;
        grown = ap (λ x. x.log) (sym u.1);
        is = ap (λ d. on_done rules line s d (λ x τ. in_front [] (rules.line line) (within rules p (suc zero) next τ))) e
            ∙ ap (in_front w [])
            (ap (λ z. finish rules p n z (rules.with_state s τ)) u.0 ∙ ap (λ x. finish rules p n stop (rules.with_state s x.state)) u.1 ∙ f);
      }

  met_is : (p : ProgramRows) (n : ℕ) (c : Entering) (next : Out → ActTree) (s : S) → limit_passed (rules.state_of s) (cells_entered c) ≡ None
      → within rules p n (Enter c next) s ≡ met rules p n c.routine (args_at c (rules.state_of s).top) next s
  met_is p zero c next s e = refl
  met_is p (suc n) c next s e = ap (λ o. if_allowed o s (met rules p (suc n) c.routine (args_at c (rules.state_of s).top) next s)) e

  runs_call : (p : ProgramRows) (c : Entering) (next : Out → ActTree) (s : S) (l : List Touch) (stop : Stop) (m' : Moment) (n : ℕ)
      (r : Result S E) (o : Option Which) → limit_passed (rules.state_of s) (cells_entered c) ≡ o
      → ◌≡◌ {A = Found} (Some (at_call o c (rules.state_of s).top next, record { state = rules.state_of s; log = l })) (Some (stop, m'))
      → finish rules p n stop (rules.with_state s m'.state) ≡ Some r → Runs p (Enter c next) s l m'.log r
  runs_call p c next s l stop m' n r None e h g =
      runs_stop p (Enter c next) s l (AtCall c.routine (args_at c (rules.state_of s).top) next) stop m' n r
      (less_then (less_is (sym (met_is p n c next s e))) (run_less rules grows p n (Enter c next) s)) h g
  runs_call p c next s l stop m' n r (Some which) e h g =
      runs_stop p (Enter c next) s l (AtEnd (Halted (WayOut.Limited which))) stop m' n r
      (less_is (sym (ap (λ o. if_allowed o s (met rules p (suc n) c.routine (args_at c (rules.state_of s).top) next s)) e))) h g

  pub runs : (p : ProgramRows) (k : ℕ) (t : ActTree) (s : S) (σ : State) (l : List Touch) (n : ℕ) (stop : Stop) (m' : Moment) (r : Result S E)
      → rules.state_of s ≡ σ → next_stop p k t (record { state = σ; log = l }) ≡ Some (stop, m') → finish rules p n stop (rules.with_state s m'.state) ≡ Some r
      → Runs p t s l m'.log r
  runs p zero t s σ l n stop m' r q h f = absurd (none_some h)
  runs p (suc k) (Ret out) s σ l n stop m' r q h f =
      runs_stop p (Ret out) s l (AtEnd (Ended out)) stop m' n r (less_same _) (ap (λ z. Some (AtEnd (Ended out), record { state = z; log = l })) q ∙ h) f
  runs p (suc k) (Halt line why) s σ l n stop m' r q h f = runs_stop p (Halt line why) s l (AtEnd (Halted (way_of line why))) stop m' n r (less_same _)
      (ap (λ z. Some (AtEnd (Halted (way_of line why)), record { state = z; log = l })) q ∙ h) f
  runs p (suc k) Meaningless s σ l n stop m' r q h f = absurd (none_some h)
  runs p (suc k) (Do line act next) s σ l n stop m' r q h f =
      runs_act p line act next s l k n stop m' r
      (λ x τ l1 g. runs p k (next x) (rules.with_state s τ) τ l1 n stop m' r (lens.set_get s τ) g
      (ap (finish rules p n stop) (lens.set_set s τ m'.state) ∙ f))
      (perform act (rules.state_of s)) refl (ap (λ z. on_act line l (perform act z) (λ x m1. next_stop p k (next x) m1)) q ∙ h) f
  runs p (suc k) (Sub part next) s σ l n stop m' r q h f =
      let y = runs p k (bind (layer p part) next) s σ l n stop m' r q h f in
      record {
        depth = suc y.depth;
        log = y.log;
        grown = y.grown;
        is = (joined_less (within rules p (suc y.depth) (layer p part) s) _ (λ out τ. within rules p (suc y.depth) (next out) τ)
            (λ out τ. within rules p (suc (suc y.depth)) (next out) τ) (less_same _) (λ out τ. run_less rules grows p (suc y.depth) (next out) τ)).gives _
            (sym (walk_bind rules (λ part τ. within rules p y.depth (layer p part) τ) (rules.call (λ u τ. within rules p y.depth u τ)) (layer p part) next s)
            ∙ y.is);
      }
  runs p (suc k) (Enter c next) s σ l n stop m' r q h f =
      runs_call p c next s l stop m' n r (limit_passed (rules.state_of s) (cells_entered c)) refl
      (ap (λ (z : State). Some (at_call (limit_passed z (cells_entered c)) c z.top next, record { state = z; log = l })) q ∙ h) f
  runs p (suc k) (Line line next) s σ l n stop m' r q h f =
      runs_line p line next s l n stop m' r (perform (Spend 1) (rules.state_of s)) refl
      (ap (λ z. on_act line l (perform (Spend 1) z) (λ x m1. Some (AtLine line next, m1))) q ∙ h) f
