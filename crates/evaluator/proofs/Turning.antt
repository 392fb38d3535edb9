-- What the turns of a body are made of.
use Rattle.std.proofs.Common.{if◌then◌else◌, ◌++◌, ◌+◌, ◌<◌, ◌==◌, ◌∙◌, ◌∷◌, ◌≡◌, ◌≤◌, [], ℕ, Bool, Err, List, None, Ok, Option, Result, Some, ap, arith, false}
use Rattle.std.proofs.Common.{nat_lt, refl, reverse, subst, sym, true}
use Rattle.std.proofs.lemmas.{Bool.lt-ltb, List.append-nil, List.reverse-append}
use Rattle.cell_value.specs.declared.values.Value.{Value}
use Rattle.core_program.proofs.ActsTakeSteps.{Acted, acted}
use Rattle.core_program.specs.{Actions.Action, Actions.act, Actions.performs, Layer.layer, Passed.Entering, Passed.args_at, Passed.cells_entered}
use Rattle.core_program.specs.{ProgramRows.ProgramRows, ProgramRows.routine_at, Run.Halted, declared.program.Routine.Routine}
use Rattle.core_program.specs.Accesses.{locate_before, no_row, on_address, spend, until_end}
use Rattle.core_program.specs.Acts.{Spend, Trouble, limit_passed, perform}
use Rattle.core_program.specs.Tree.{ActTree, Enter, Here, Line, Locate, Out, Part, Sub, bind, doing, way_of}
use Rattle.eval_ops.proofs.ActionsCompose.{does_act, does_bind, does_stop}
use Rattle.eval_ops.specs.Machines.{ActionStopped, DoesAct, DoesAll, Gives, Moment}
use Rattle.eval_ops.specs.declared.halt.Halt.{Halt, TheVariants.Fault, TheVariants.Limited, TheVariants.Memory, TheVariants.OutOfSteps}
use Rattle.evaluator.proofs.Moves.{begins, bind_doing, call_here, comes_same, comes_then, finished, line_stopped, stopped, stops_then}
use Rattle.evaluator.proofs.StepsFall.{steps_fall}
use Rattle.evaluator.specs.{Records.SameFrame, Stops.AtCall, Stops.AtEnd, Stops.Comes, Stops.NextStopIs, Weight.Falls, Weight.body_weight, Weight.left_with}
use Rattle.evaluator.specs.Rest.{Lists, and_list, below_list, lists_of, paid, resume, tasks_of, top_list, values_of}
use Rattle.evaluator.specs.Turns.{Before, EntersRoutine, Leads, Moves, StopsForGood, Turns, before, configuration, pause_of}
use Rattle.evaluator.specs.declared.{body.Body.Body, tasks.Home.Home, tasks.Pause.Pause}

-- what was put on top comes first
pub reverse_pushed : {A : Type 0} (xs ys : List A) (x : A) → ys ≡ xs ++ x ∷ [] → reverse ys ≡ x ∷ reverse xs
reverse_pushed xs ys x h = ap reverse h ∙ reverse-append xs (x ∷ [])

pub fails_after : (p : ProgramRows) (t t' : ActTree) (m m' m'' : Moment) (line : ℕ) (e : Halt) → Comes p t m t' m'
    → StopsForGood p (configuration t' m') line e m''
    → StopsForGood p (configuration t
    m) line e m''
fails_after p t t' m m' m'' line (Fault kind) f h = stops_then f h
fails_after p t t' m m' m'' line OutOfSteps f h = stops_then f h
fails_after p t t' m m' m'' line (Limited which) f h = stops_then f h
fails_after p t t' m m' m'' line Memory f h = tt

pub turns_after : (p : ProgramRows) (t t' : ActTree) (m m' m'' : Moment) (r : Result (Option Pause) Halt) (a : Body) → Comes p t m t' m'
    → Turns p (configuration t'
    m') r a m'' → Turns p (configuration t m) r a m''
turns_after p t t' m m' m'' (Ok None) a f h = comes_then f h
turns_after p t t' m m' m'' (Ok (Some s)) a f h = (stops_then f h.0, h.1)
turns_after p t t' m m' m'' (Err e) a f h = fails_after p t t' m m' m'' a.line e f h

pub turns_same : (p : ProgramRows) (t t' : ActTree) (m m' : Moment) (r : Result (Option Pause) Halt) (a : Body) → t ≡ t' → Turns p (configuration t' m) r a m'
    → Turns
    p (configuration t m) r a m'
turns_same p t t' m m' r a e h = subst (λ t. Turns p (configuration t m) r a m') (sym e) h

-- an action was done
pub did : {A X : Type 0} (p : ProgramRows) (line : ℕ) (a : Action A) (k : A → ActTree) (K : Out → ActTree) (seen : X → A) (x : X) (m m' : Moment)
    → DoesAll seen (performs a m.state) (Ok x) m m' → Comes p (bind (doing line a k) K) m (bind (k (seen x)) K) m'
did p line a k K seen x m m' h = comes_then (comes_same (bind_doing line a k K)) (finished line a (λ x. bind (k x) K) (seen x) m m' h)

stopped_in : {A : Type 0} (p : ProgramRows) (line : ℕ) (a : Action A) (k : A → ActTree) (K : Out → ActTree) (why : Trouble) (m m' : Moment)
    → ActionStopped (performs a m.state) why m m' → NextStopIs p (bind (doing line a k) K) m (AtEnd (Halted (way_of line why))) m'
stopped_in p line a k K why m m' h = stops_then (comes_same (bind_doing line a k K)) (stopped line a (λ x. bind (k x) K) why m m' h)

-- an action was not done
pub fails : {A X : Type 0} (p : ProgramRows) (line : ℕ) (a : Action A) (k : A → ActTree) (K : Out → ActTree) (seen : X → A) (e : Halt) (m m' : Moment)
    → DoesAll seen (performs a m.state) (Err e) m m' → StopsForGood p (configuration (bind (doing line a k) K) m) line e m'
fails p line a k K seen (Fault kind) m m' h = stopped_in p line a k K _ m m' h
fails p line a k K seen OutOfSteps m m' h = stopped_in p line a k K _ m m' h
fails p line a k K seen (Limited which) m m' h = stopped_in p line a k K _ m m' h
fails p line a k K seen Memory m m' h = tt

-- and so the body has failed
pub turns_failed : (p : ProgramRows) (t : ActTree) (m m' : Moment) (line : ℕ) (e : Halt) (a : Body) (r : Result (Option Pause) Halt) → a.line ≡ line → r ≡ Err e
    → StopsForGood p (configuration t m) line e m' → Turns p (configuration t m) r a m'
turns_failed p t m m' line e a r g f h = subst (λ r. Turns p (configuration t m) r a m') (sym f)
    (subst (λ l. StopsForGood p (configuration t m) l e m') (sym g) h)

-- a part begins, by its row
pub part_comes : (p : ProgramRows) (part : Part) (K : Out → ActTree) (m : Moment) (t : ActTree) → layer p part ≡ t → Comes p (Sub part K) m (bind t K) m
part_comes p part K m t e = comes_then (begins part K m) (comes_same (ap (λ t. bind t K) e))

-- a list goes on with an item, or it ends
pub goes_on : (at : ℕ) (ended goes : ActTree) → (at == 0) ≡ false → until_end at ended goes ≡ goes
goes_on at ended goes e = ap (λ b. if b then ended else goes) e

pub ends_list : (at : ℕ) (ended goes : ActTree) → (at == 0) ≡ true → until_end at ended goes ≡ ended
ends_list at ended goes e = ap (λ b. if b then ended else goes) e

-- a step was taken
pub spent : (p : ProgramRows) (h : Here) (t : ActTree) (K : Out → ActTree) (m m' : Moment)
    → DoesAct {X = Unit {0}} (λ _. tt) (perform (Spend 1) m.state) (Ok tt) m m' → Comes p (bind (spend h t) K) m (bind t K) m'
spent p h t K m m' w = did {X = Unit {0}} p h.line (act (Spend 1)) (λ _. t) K (λ _. tt) tt m m' (does_act {X = Unit {0}} (Spend 1) (λ _. tt) m m' (Ok tt) w)

-- no step was left
pub not_spent : (p : ProgramRows) (h : Here) (t : ActTree) (K : Out → ActTree) (e : Halt) (m m' : Moment)
    → DoesAct {X = Unit {0}} (λ _. tt) (perform (Spend 1) m.state) (Err e) m m' → StopsForGood p (configuration (bind (spend h t) K) m) h.line e m'
not_spent p h t K e m m' w = fails {X = Unit {0}} p h.line (act (Spend 1)) (λ _. t) K (λ _. tt) e m m'
    (does_act {X = Unit {0}} (Spend 1) (λ _. tt) m m' (Err e) w)

-- a statement did not begin, since no step was left
pub line_fails : (p : ProgramRows) (line : ℕ) (t : ActTree) (e : Halt) (m m' : Moment)
    → DoesAct {X = Unit {0}} (λ _. tt) (perform (Spend 1) m.state) (Err e) m m' → StopsForGood p (configuration (Line line t) m) line e m'
line_fails p line t (Fault kind) m m' w = line_stopped line t _ m m' w
line_fails p line t OutOfSteps m m' w = line_stopped line t _ m m' w
line_fails p line t (Limited which) m m' w = line_stopped line t _ m m' w
line_fails p line t Memory m m' w = tt

-- a step fewer is left where one was taken
pub spent_less : (m m' : Moment) → DoesAct {X = Unit {0}} (λ _. tt) (perform (Spend 1) m.state) (Ok tt) m m' → m'.state.steps + 1 ≤ m.state.steps
spent_less m m' w = subst (Acted 1 m.state) w.1 (acted (Spend 1) m.state)

-- what needs no machine
pub given : {A X : Type 0} (seen : X → A) (a : Action A) (r : Result X Halt) (m : Moment) → Gives seen a r → DoesAll seen (performs a m.state) r m m
given seen a (Ok x) m h = ([], ap (λ a. performs a m.state) h, sym (append-nil m.log))
given seen a (Err (Fault kind)) m h = ([], ap (λ a. performs a m.state) h, sym (append-nil m.log))
given seen a (Err OutOfSteps) m h = absurd h
given seen a (Err (Limited which)) m h = absurd h
given seen a (Err Memory) m h = tt

-- a turn that failed leaves no more to do
pub falls_failed : (r : Result (Option Pause) Halt) (e : Halt) (a b : ℕ) → r ≡ Err e → Falls r a b
falls_failed r e a b h = subst (λ r. Falls r a b) (sym h) (λ g. absurd (omega arith))

-- an access before a selector
pub before_it : (row access : ℕ) (target : Bool) (h : Here) (go : ℕ → ActTree) (K : Out → ActTree) → access < row
    → bind (locate_before row access target h go) K ≡ bind (Sub (Locate access target h) (on_address go)) K
before_it row access target h go K l = ap (λ b. bind (if b then Sub (Locate access target h) (on_address go) else no_row) K) (lt-ltb access row l)

-- a row that is to stand after another one
pub after_it : (a b : ℕ) (t : ActTree) (K : Out → ActTree) → a < b → bind (if nat_lt a b then t else no_row) K ≡ bind t K
after_it a b t K l = ap (λ x. bind (if x then t else no_row) K) (lt-ltb a b l)

-- a call is to be entered, whose arguments are the last list that waits
pub call_pauses : {p : ProgramRows} {m : Moment} {K : Out → ActTree} {ls : Lists} (e : Entering) (a : Body)
    → limit_passed m.state (cells_entered e) ≡ None → lists_of a ≡ and_list (args_at e m.state.top) ls
    → K ≡ resume p a.home (tasks_of a) (values_of a) ls → NextStopIs p (Enter e K) m (pause_of p a (Pause.Enter e.routine)) m
call_pauses {p = p} {m = m} {K = K} {ls = ls} e a h l w =
    subst (λ l. NextStopIs p (Enter e K) m (AtCall e.routine (top_list l) (resume p a.home (tasks_of a) (values_of a) (below_list l))) m) (sym l)
    (subst (λ k. NextStopIs p (Enter e K) m (AtCall e.routine (args_at e m.state.top) k) m) w (call_here e K m h))

-- a call was reached, with room for it
pub entered_turns : (p : ProgramRows) (t : ActTree) (m : Moment) (f : ℕ) (r : Result (Option Pause) Halt) (a : Body) → EntersRoutine p (configuration t m) f r a
    → (x : Routine) → routine_at p f ≡ Some x → (cells : ℕ) → limit_passed m.state cells ≡ None → Turns p (configuration t m) r a m
entered_turns p t m f (Ok None) a h x e n l = absurd h
entered_turns p t m f (Ok (Some (Pause.Line n))) a h x e k l = absurd h
entered_turns p t m f (Ok (Some (Pause.Enter g))) a h x e n l = (h.0, (x, ap (routine_at p) h.1 ∙ e, n, l))
entered_turns p t m f (Ok (Some Pause.Ended)) a h x e n l = absurd h
entered_turns p t m f (Err (Fault kind)) a h x e n l = absurd h
entered_turns p t m f (Err OutOfSteps) a h x e n l = absurd h
entered_turns p t m f (Err (Limited which)) a h x e n l = absurd h
entered_turns p t m f (Err Memory) a h x e n l = tt

-- ---- turns as one relation

pub same_frame : {a b : Home} → a ≡ b → SameFrame a b
same_frame h = record { routine = ap (λ h. h.routine) h; base = ap (λ h. h.base) h }

module _ {p : ProgramRows} {o : Before} {r : Result (Option Pause) Halt} {b : Body} {m' : Moment} where
  -- a turn that does something else, which is the same
  pub moves_on : {t : ActTree} {w : ℕ} → Moves p (record o { tree = t; left = w }) r b m' → o.tree ≡ t → w ≤ o.left → Moves p o r b m'
  moves_on {t = t} h e l = record {
    turns = turns_same p o.tree t o.moment m' r b e h.turns;
    falls = λ g. omega (arith, h.falls g, l);
    frame = h.frame;
  }

  -- a turn of a body from which values were taken before
  pub moves_from : {t : ActTree} {w : ℕ} {h : Home} → Moves p (record o { tree = t; left = w; home = h }) r b m' → o.tree ≡ t → w ≤ o.left → h ≡ o.home
      → Moves p o r b m'
  moves_from {t = t} h e l k = record {
    turns = turns_same p o.tree t o.moment m' r b e h.turns;
    falls = λ g. omega (arith, h.falls g, l);
    frame = subst (SameFrame b.home) k h.frame;
  }

  -- a turn after moves
  pub moves_after : {t : ActTree} {m : Moment} {w : ℕ} → Moves p (record o { tree = t; moment = m; left = w }) r b m' → Comes p o.tree o.moment t m → w ≤ o.left
      → Moves p o r b m'
  moves_after {t = t} {m = m} h e l = record {
    turns = turns_after p o.tree t o.moment m m' r b e h.turns;
    falls = λ g. omega (arith, h.falls g, l);
    frame = h.frame;
  }

  -- a turn that failed
  pub moves_failed : {line : ℕ} {e : Halt} → r ≡ Err e → b.line ≡ line → b.home ≡ o.home → StopsForGood p (configuration o.tree o.moment) line e m'
      → Moves p o r b m'
  moves_failed {line = line} {e = e} f l h g = record {
    turns = turns_failed p o.tree o.moment m' line e b r l f g;
    falls = falls_failed r e _ _ f;
    frame = same_frame h;
  }

-- a turn that takes no machine
pub moves_by : {p : ProgramRows} {o : Before} {r : Result (Option Pause) Halt} {b : Body} {t : ActTree} {w : ℕ} → Leads p t r b → Falls r (body_weight b) w
    → b.home ≡ o.home → o.tree ≡ t → left_with o.moment.state.steps w ≤ o.left → Moves p o r b o.moment
moves_by {o = o} l f h e k = record {
  turns = l o.moment o.tree e;
  falls = λ g. omega (arith, f g, k);
  frame = same_frame h;
}

-- the same after moves
pub moves_after_by : {p : ProgramRows} {o : Before} {r : Result (Option Pause) Halt} {b : Body} {t : ActTree} {m : Moment} {w : ℕ} → Leads p t r b
    → Falls r (body_weight b) w → b.home ≡ o.home → Comes p o.tree o.moment t m → left_with m.state.steps w ≤ o.left → Moves p o r b m
moves_after_by {p = p} {o = o} {r = r} {b = b} {t = t} {m = m} l f h e k = record {
  turns = turns_after p o.tree t o.moment m m r b e (l m t refl);
  falls = λ g. omega (arith, f g, k);
  frame = same_frame h;
}

-- an action was done
pub after_done : {A X : Type 0} {r : Result (Option Pause) Halt} {b' : Body} (p : ProgramRows) (b : Body) (line : ℕ) (a : Action A) (k : A → ActTree)
    (K : Out → ActTree) (w : ℕ) (seen : X → A) (x : X) (m m' : Moment) → DoesAll seen (performs a m.state) (Ok x) m m'
    → Moves p (before b m' (bind (k (seen x)) K) w) r b' m' → Moves p (before b m (bind (doing line a k) K) w) r b' m'
after_done {r = r} {b' = b'} p b line a k K w seen x m m' d h = record {
  turns = turns_after p _ _ m m' m' r b' (did p line a k K seen x m m' d) h.turns;
  falls = λ g. omega (arith, h.falls g, steps_fall seen a x m m' d);
  frame = h.frame;
}

-- an action was not done
pub after_failed : {A X : Type 0} {r : Result (Option Pause) Halt} {b' : Body} (p : ProgramRows) (b : Body) (line : ℕ) (a : Action A) (k : A → ActTree)
    (K : Out → ActTree) (w : ℕ) (seen : X → A) (e : Halt) (m m' : Moment) → DoesAll seen (performs a m.state) (Err e) m m' → b'.line ≡ line
    → r ≡ Err e → b'.home ≡ b.home → Moves p (before b m (bind (doing line a k) K) w) r b' m'
after_failed p b line a k K w seen e m m' d l f h = moves_failed f l h (fails p line a k K seen e m m' d)

-- an action after a step
pub paid_for : {A X : Type 0} (seen : X → A) (a : Action A) (old mid new : Moment) (r : Result X Halt)
    → DoesAct {X = Unit {0}} (λ _. tt) (perform (Spend 1) old.state) (Ok tt) old mid → DoesAll seen (performs a mid.state) r mid new
    → DoesAll seen (performs (paid a) old.state) r old new
paid_for seen a old mid new r h k =
    does_bind seen (act (Spend 1)) (λ _. a) tt old mid new r (does_act {X = Unit {0}} (Spend 1) (λ _. tt) old mid (Ok tt) h) k

-- no step was left for it
pub not_paid : {A X : Type 0} (seen : X → A) (a : Action A) (old new : Moment) (e : Halt)
    → DoesAct {X = Unit {0}} (λ _. tt) (perform (Spend 1) old.state) (Err e) old new → DoesAll seen (performs (paid a) old.state) (Err e) old new
not_paid seen a old new e h =
    does_stop {X = Unit {0}} (λ _. tt) seen (act (Spend 1)) (λ _. a) old new e (does_act {X = Unit {0}} (Spend 1) (λ _. tt) old new (Err e) h)
