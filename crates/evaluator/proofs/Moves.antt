-- How moves of a tree follow one another.
use Rattle.std.proofs.Common.{if◌then◌else◌, ◌++◌, ◌∙◌, ◌≡◌, ℕ, Bool, List, None, Option, Some, ap, append-nil, append_assoc, false, refl, suc, sym, true, zero}
use Rattle.cell_value.specs.declared.{entries.Touch.Touch, values.Value.Value, ways_out.WayOut.WayOut, ways_out.Which.Which}
use Rattle.core_program.specs.{Layer.layer, Passed.Entering, Passed.args_at, Passed.cells_entered, ProgramRows.ProgramRows, Run.Ended, Run.Halted, State.State}
use Rattle.core_program.specs.Actions.{Action, Fail, Finished, Give, NoMeaning, NotMeant, Perform, Performed, Stopped, before, follow, performs}
use Rattle.core_program.specs.Acts.{Act, ActResult, Answer, Spend, Stops, Trouble, Went, limit_passed, perform}
use Rattle.core_program.specs.Tree.{ActTree, Do, Enter, Halt, Line, Meaningless, Out, Part, Ret, Sub, bind, doing, way_of}
use Rattle.eval_ops.specs.Machines.{ActDone, ActRefused, ActionFinished, ActionStopped, Moment}
use Rattle.evaluator.specs.Stops.{AtCall, AtEnd, AtLine, Comes, NextStopIs, Stop, at_call, next_stop, on_act}

pub bind_ret : (t : ActTree) → bind t Ret ≡ t
bind_ret (Ret out) = refl
bind_ret (Halt line why) = refl
bind_ret Meaningless = refl
bind_ret (Do line act next) = λ i. Do line act (λ x. bind_ret (next x) i)
bind_ret (Sub part next) = λ i. Sub part (λ x. bind_ret (next x) i)
bind_ret (Enter entering next) = λ i. Enter entering (λ x. bind_ret (next x) i)
bind_ret (Line line next) = λ i. Line line (bind_ret next i)

pub bind_bind : (t : ActTree) (f g : Out → ActTree) → bind (bind t f) g ≡ bind t (λ x. bind (f x) g)
bind_bind (Ret out) f g = refl
bind_bind (Halt line why) f g = refl
bind_bind Meaningless f g = refl
bind_bind (Do line act next) f g = λ i. Do line act (λ x. bind_bind (next x) f g i)
bind_bind (Sub part next) f g = λ i. Sub part (λ x. bind_bind (next x) f g i)
bind_bind (Enter entering next) f g = λ i. Enter entering (λ x. bind_bind (next x) f g i)
bind_bind (Line line next) f g = λ i. Line line (bind_bind next f g i)

-- what follows a condition
pub bind_if : (b : Bool) (t u : ActTree) (K : Out → ActTree) → bind (if b then t else u) K ≡ (if b then bind t K else bind u K)
bind_if true t u K = refl
bind_if false t u K = refl

-- what follows an action that is followed
pub bind_doing : {A : Type 0} (line : ℕ) (a : Action A) (k : A → ActTree) (f : Out → ActTree) → bind (doing line a k) f ≡ doing line a (λ x. bind (k x) f)
bind_doing line (Give x) k f = refl
bind_doing line (Fail why) k f = refl
bind_doing line NoMeaning k f = refl
bind_doing line (Perform act next) k f = λ i. Do line act (λ x. bind_doing line (next x) k f i)

module _ {p : ProgramRows} where
  pub comes_same : {t t' : ActTree} {m : Moment} → t ≡ t' → Comes p t m t' m
  comes_same {m = m} e = record { each = λ n. (n, ap (λ t. next_stop p n t m) e) }

  pub comes_then : {a b c : ActTree} {m m' m'' : Moment} → Comes p a m b m' → Comes p b m' c m'' → Comes p a m c m''
  comes_then f g = record { each = λ n. let y = g.each n in let x = f.each y.0 in (x.0, x.1 ∙ y.1) }

  pub stops_then : {a b : ActTree} {s : Stop} {m m' m'' : Moment} → Comes p a m b m' → NextStopIs p b m' s m'' → NextStopIs p a m s m''
  stops_then f g = let x = f.each g.moves in record { moves = x.0; is = x.1 ∙ g.is }

  -- a part begins
  pub begins : (part : Part) (k : Out → ActTree) (m : Moment) → Comes p (Sub part k) m (bind (layer p part) k) m
  begins part k m = record { each = λ n. (suc n, refl) }

  -- a statement begins, where there is a step for it, and where there is none
  pub line_here : (line : ℕ) (t : ActTree) (m m' : Moment) → ActDone (perform (Spend 1) m.state) tt m m' → NextStopIs p (Line line t) m (AtLine line t) m'
  line_here line t m m' h = record {
    moves = suc zero;
    is = ap (λ d. on_act line m.log d (λ _ m1. Some (AtLine line t, m1))) h.1
        ∙ ap (λ l. Some (AtLine line t, record { state = m'.state; log = l })) (sym h.2);
  }

  pub line_stopped : (line : ℕ) (t : ActTree) (why : Trouble) (m m' : Moment) → ActRefused (perform (Spend 1) m.state) why m m'
      → NextStopIs p (Line line t) m (AtEnd (Halted (way_of line why))) m'
  line_stopped line t why m m' h = record {
    moves = suc zero;
    is = ap (λ d. on_act line m.log d (λ _ m1. Some (AtLine line t, m1))) h.1
        ∙ ap (λ l. Some (AtEnd (Halted (way_of line why)), record { state = m'.state; log = l })) (sym h.2);
  }

  -- a call that passes no limit, and one that would
  pub call_here : (e : Entering) (k : Out → ActTree) (m : Moment) → limit_passed m.state (cells_entered e) ≡ None
      → NextStopIs p (Enter e k) m (AtCall e.routine (args_at e m.state.top) k) m
  call_here e k m h = record { moves = suc zero; is = ap (λ o. Some (at_call o e m.state.top k, m)) h }

  pub limit_here : (e : Entering) (k : Out → ActTree) (which : Which) (m : Moment) → limit_passed m.state (cells_entered e) ≡ Some which
      → NextStopIs p (Enter e k) m (AtEnd (Halted (WayOut.Limited which))) m
  limit_here e k which m h = record { moves = suc zero; is = ap (λ o. Some (at_call o e m.state.top k, m)) h }

  pub end_here : (out : Out) (m : Moment) → NextStopIs p (Ret out) m (AtEnd (Ended out)) m
  end_here out m = record { moves = suc zero; is = refl }

module _ (p : ProgramRows) where
  -- what is left after a performed action
  abbrev stop_after : {A : Type 0} → (line n : ℕ) → (A → ActTree) → List Touch → Performed A → Option (Stop × Moment)
  stop_after line n k l (Finished x w σ) = next_stop p n (k x) (record { state = σ; log = l ++ w })
  stop_after line n k l (Stopped why w σ) = Some (AtEnd (Halted (way_of line why)), record { state = σ; log = l ++ w })
  stop_after line n k l NotMeant = None

  after_before : {A : Type 0} (line n : ℕ) (k : A → ActTree) (l w : List Touch) (d : Performed A)
      → stop_after line n k (l ++ w) d ≡ stop_after line n k l (before w d)
  after_before line n k l w (Finished x v σ) = ap (λ u. next_stop p n (k x) (record { state = σ; log = u })) (append_assoc l w v)
  after_before line n k l w (Stopped why v σ) = ap (λ u. Some (AtEnd (Halted (way_of line why)), record { state = σ; log = u })) (append_assoc l w v)
  after_before line n k l w NotMeant = refl

  abbrev Acted : {A : Type 0} → ℕ → (A → ActTree) → ActTree → State → List Touch → ℕ → Performed A → Type 0
  Acted line k t σ l n d = (j : ℕ) × (next_stop p j t (record { state = σ; log = l }) ≡ stop_after line n k l d)

  acted_act : {A : Type 0} (line : ℕ) (act : Act) (next : Answer act → Action A) (k : A → ActTree) (σ : State) (l : List Touch) (n : ℕ)
      → ((x : Answer act) (τ : State) (w : List Touch) → Acted line k (doing line (next x) k) τ (l ++ w) n (performs (next x) τ))
      → (d : ActResult (Answer act)) → perform act σ ≡ d
      → Acted line k (Do line act (λ x. doing line (next x) k)) σ l n (follow (perform act σ) (λ x τ. performs (next x) τ))
  acted_act line act next k σ l n ih (Went x w τ) e = let y = ih x τ w in (
    suc y.0,
    ap (λ d. on_act line l d (λ x m'. next_stop p y.0 (doing line (next x) k) m')) e ∙ y.1 ∙ after_before line n k l w (performs (next x) τ)
        ∙ sym (ap (λ d. stop_after line n k l (follow d (λ x τ. performs (next x) τ))) e),
  )
  acted_act line act next k σ l n ih (Stops why w τ) e = (
    suc zero,
    ap (λ d. on_act line l d (λ x m'. next_stop p zero (doing line (next x) k) m')) e
        ∙ sym (ap (λ d. stop_after line n k l (follow d (λ x τ. performs (next x) τ))) e),
  )

  acted : {A : Type 0} (line : ℕ) (a : Action A) (k : A → ActTree) (σ : State) (l : List Touch) (n : ℕ) → Acted line k (doing line a k) σ l n (performs a σ)
  acted line (Give x) k σ l n = (n, ap (λ u. next_stop p n (k x) (record { state = σ; log = u })) (sym (append-nil l)))
  acted line (Fail why) k σ l n = (suc n, ap (λ u. Some (AtEnd (Halted (way_of line why)), record { state = σ; log = u })) (sym (append-nil l)))
  acted line NoMeaning k σ l n = (suc n, refl)
  acted line (Perform act next) k σ l n = acted_act line act next k σ l n (λ x τ w. acted line (next x) k τ (l ++ w) n) (perform act σ) refl

module _ {p : ProgramRows} where
  -- the code did an action: so the tree comes to what follows it
  pub finished : {A : Type 0} (line : ℕ) (a : Action A) (k : A → ActTree) (x : A) (m m' : Moment) → ActionFinished (performs a m.state) x m m'
      → Comes p (doing line a k) m (k x) m'
  finished line a k x m m' h = record {
    each = λ n. let y = acted p line a k m.state m.log n in
        (y.0, y.1 ∙ ap (stop_after p line n k m.log) h.1 ∙ ap (λ u. next_stop p n (k x) (record { state = m'.state; log = u })) (sym h.2));
  }

  -- an action stopped in the code: so the tree ends
  pub stopped : {A : Type 0} (line : ℕ) (a : Action A) (k : A → ActTree) (why : Trouble) (m m' : Moment) → ActionStopped (performs a m.state) why m m'
      → NextStopIs p (doing line a k) m (AtEnd (Halted (way_of line why))) m'
  stopped line a k why m m' h = let y = acted p line a k m.state m.log zero in record {
    moves = y.0;
    is = y.1 ∙ ap (stop_after p line zero k m.log) h.1
        ∙ ap (λ u. Some (AtEnd (Halted (way_of line why)), record { state = m'.state; log = u })) (sym h.2);
  }
