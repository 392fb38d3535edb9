-- What a body does itself enters no call, leaves none and gives nothing out, and the log only grows.
use Rattle.std.proofs.Common.{if◌then◌else◌, ◌++◌, ◌+◌, ◌-◌, ◌∙◌, ◌∷◌, ◌≡◌, ◌≤◌, [], ℕ, Bool, List, None, Option, Some, ap, append-nil, append_assoc, arith}
use Rattle.std.proofs.Common.{false, is_some, length, nat_lt, refl, slice_get, subst, suc, sym, true, zero}
use Rattle.std.{proofs.lemmas.Bool.ltb-false, proofs.lemmas.List.length-append, specs.FinMap.get}
use Rattle.cell_value.specs.{Effects.heap_end, declared.entries.Touch.Touch, declared.values.Value.Value}
use Rattle.core_program.{proofs.OutcomesCompose.none_some, proofs.OutcomesCompose.some_same, specs.State.State, specs.State.is_in_reach, specs.State.stack_end}
use Rattle.core_program.specs.{Acts.take_looked, Acts.with_steps, Blocks.block_cells, Blocks.lies_in_heap, Layer.layer, ProgramRows.ProgramRows, Run.Halted}
use Rattle.core_program.specs.Acts.{Act, ActResult, DropBlock, GiveByte, HasCell, MakeBlock, OutOfSteps, ReadCell, Spend, Stops, TakeIf, Went, WriteCell}
use Rattle.core_program.specs.Acts.{after_touches, dropped_block, look_item, made_block, on_cell, perform, put_asked, put_value, read_as, spent, take_item}
use Rattle.core_program.specs.Tree.{ActTree, Do, Enter, Halt, Line, Meaningless, Ret, Sub, bind, way_of}
use Rattle.eval_ops.specs.Machines.{Moment}
use Rattle.evaluator.specs.Stops.{AtEnd, Stop, next_stop, on_act}

-- no call was entered and none was left, and each byte that was given out took a step
pub record SameCalls (σ τ : State) : Type 0 where
  pub calls : τ.calls ≡ σ.calls
  pub depth : τ.depth ≡ σ.depth
  pub output : length τ.output + τ.steps ≤ length σ.output + σ.steps
  pub items : τ.items ≡ σ.items

same_calls : (σ : State) → SameCalls σ σ
same_calls σ = record { calls = refl; depth = refl; output = omega arith; items = refl }

calls_then : {σ τ υ : State} → SameCalls σ τ → SameCalls τ υ → SameCalls σ υ
calls_then f g = record {
  calls = g.calls ∙ f.calls;
  depth = g.depth ∙ f.depth;
  output = let a = f.output in let b = g.output in omega (arith, a, b);
  items = g.items ∙ f.items;
}

abbrev Kept : {A : Type 0} → State → ActResult A → Type 0
Kept σ (Went x w τ) = SameCalls σ τ
Kept σ (Stops why w τ) = SameCalls σ τ

kept_if : {A : Type 0} (σ : State) (b : Bool) (d e : ActResult A) → Kept σ d → Kept σ e → Kept σ (if b then d else e)
kept_if σ true d e f g = f
kept_if σ false d e f g = g

kept_steps : {A : Type 0} (n : ℕ) (σ : State) (go : State → ActResult A) → ((m : ℕ) → m + n ≤ σ.steps → Kept σ (go (record σ { steps = m })))
    → Kept σ (with_steps n σ go)
kept_steps {A} n σ go h = by (nat_lt σ.steps n) refl
  where
    by : (b : Bool) → nat_lt σ.steps n ≡ b → Kept σ (if b then Stops OutOfSteps [] (spent σ) else go (record σ { steps = σ.steps - n }))
    by true e = record { calls = refl; depth = refl; output = omega arith; items = refl }
    by false e = h (σ.steps - n) (let k = ltb-false σ.steps n e in omega arith)

kept_cell : {A : Type 0} (addr : ℕ) (σ : State) (go : State → ActResult A) → ((m : ℕ) → m + 1 ≤ σ.steps → Kept σ (go (record σ { steps = m })))
    → Kept σ (on_cell addr σ go)
kept_cell addr σ go h = kept_if σ (is_in_reach σ addr) _ _ (kept_steps 1 σ go h) (same_calls σ)

-- fewer steps are left, and all else is as it was
kept_left : (σ : State) (m n : ℕ) → m + n ≤ σ.steps → SameCalls σ (record σ { steps = m })
kept_left σ m n l = record { calls = refl; depth = refl; output = omega (arith, l); items = refl }

kept_read : (addr : ℕ) (o : Option Value) (σ τ : State) → SameCalls σ τ → Kept σ (read_as addr o τ)
kept_read addr (Some v) σ τ h = h
kept_read addr None σ τ h = h

kept_touched : {A : Type 0} (w : List Touch) (σ : State) (d : ActResult A) → Kept σ d → Kept σ (after_touches w d)
kept_touched w σ (Went x v τ) h = h
kept_touched w σ (Stops why v τ) h = h

kept_put : (there : Bool) (addr : ℕ) (value : Value) (σ : State) (m : ℕ) → m + 1 ≤ σ.steps → Kept σ (put_asked there addr value (record σ { steps = m }))
kept_put true addr value σ m l = kept_touched (Touch.Has addr true ∷ []) σ (with_steps 1 (record σ { steps = m }) (put_value addr value))
    (kept_if σ (nat_lt m 1) _ _ (record { calls = refl; depth = refl; output = omega (arith, l); items = refl })
    (record { calls = refl; depth = refl; output = omega (arith, l); items = refl }))
kept_put false addr value σ m l = kept_left σ m 1 l

-- an item that was looked at, and one that is taken too
kept_take : (wanted : Bool) (item : ℕ) (σ : State) (m : ℕ) → m + 1 ≤ σ.steps → Kept σ (take_item wanted item (record σ { steps = m }))
kept_take true item σ m l = kept_if σ (nat_lt m 1) _ _ (record { calls = refl; depth = refl; output = omega (arith, l); items = refl })
    (record { calls = refl; depth = refl; output = omega (arith, l); items = refl })
kept_take false item σ m l = kept_left σ m 1 l

kept_looked : (wanted : ℕ → Bool) (o : Option ℕ) (σ : State) (m : ℕ) → m + 1 ≤ σ.steps → Kept σ (take_looked wanted o (record σ { steps = m }))
kept_looked wanted None σ m l = kept_left σ m 1 l
kept_looked wanted (Some item) σ m l = kept_take (wanted item) item σ m l

-- a byte that is given takes a step
kept_given : (byte : ℕ) (σ : State) (m : ℕ) → m + 1 ≤ σ.steps → SameCalls σ (record σ { output = σ.output ++ byte ∷ []; steps = m })
kept_given byte σ m l =
    record { calls = refl; depth = refl; output = let e = length-append σ.output (byte ∷ []) in omega (arith, l, e); items = refl }

kept_write : (b : Bool) (addr : ℕ) (value : Value) (σ : State) (m : ℕ) → m + 1 ≤ σ.steps
    → Kept σ (if b then put_value addr value (record σ { steps = m }) else put_asked (is_some (get σ.cells addr)) addr value (record σ { steps = m }))
kept_write true addr value σ m l = record { calls = refl; depth = refl; output = omega (arith, l); items = refl }
kept_write false addr value σ m l = kept_put (is_some (get σ.cells addr)) addr value σ m l

kept_act : (act : Act) (σ : State) → Kept σ (perform act σ)
kept_act (Spend n) σ = kept_steps n σ (λ τ. Went tt [] τ) (λ m l. kept_left σ m n l)
kept_act (ReadCell addr) σ = kept_cell addr σ (λ τ. read_as addr (get σ.cells addr) τ)
    (λ m l. kept_read addr (get σ.cells addr) σ (record σ { steps = m }) (kept_left σ m 1 l))
kept_act (HasCell addr) σ = kept_cell addr σ (λ τ. Went (is_some (get σ.cells addr)) (Touch.Has addr (is_some (get σ.cells addr)) ∷ []) τ)
    (λ m l. kept_left σ m 1 l)
kept_act (MakeBlock cells of') σ = kept_if σ (nat_lt heap_end (σ.fresh + block_cells cells)) _ _ (same_calls σ)
    (kept_steps (block_cells cells) σ (made_block (block_cells cells) of')
    (λ m l. record { calls = refl; depth = refl; output = omega (arith, l); items = refl }))
kept_act (DropBlock addr cells) σ = kept_if σ (lies_in_heap addr (block_cells cells)) _ _
    (kept_steps (block_cells cells) σ (dropped_block addr (block_cells cells))
    (λ m l. record { calls = refl; depth = refl; output = omega (arith, l); items = refl }))
    (same_calls σ)
kept_act (TakeIf wanted) σ = kept_steps 1 σ (look_item wanted) (λ m l. kept_touched (Touch.Look σ.place ∷ []) σ _
    (kept_looked wanted (slice_get σ.items σ.place) σ m l))
kept_act (GiveByte byte) σ = kept_steps 1 σ (λ τ. Went tt (Touch.Give byte ∷ []) (record τ { output = τ.output ++ byte ∷ [] })) (kept_given byte σ)
kept_act (WriteCell addr value) σ = kept_cell addr σ
    (λ τ. if nat_lt addr stack_end then put_value addr value τ else put_asked (is_some (get τ.cells addr)) addr value τ)
    (kept_write (nat_lt addr stack_end) addr value σ)

-- from a moment on to another, within one body
pub record Onward (m m' : Moment) : Type 0 where
  pub log : List Touch
  pub grown : m'.log ≡ m.log ++ log
  pub same : SameCalls m.state m'.state

onward_act : {A : Type 0} (line : ℕ) (m : Moment) (d : ActResult A) (go : A → Moment → Option (Stop × Moment)) (stop : Stop) (m' : Moment)
    → ((x : A) (m1 : Moment) → go x m1 ≡ Some (stop, m') → Onward m1 m') → Kept m.state d → on_act line m.log d go ≡ Some (stop, m') → Onward m m'
onward_act line m (Went x w σ) go stop m' ih h e = let y = ih x (record { state = σ; log = m.log ++ w }) e in record {
  log = w ++ y.log;
  grown = y.grown ∙ append_assoc m.log w y.log;
  same = calls_then h y.same;
}
onward_act line m (Stops why w σ) go stop m' ih h e = here h e
  where
    here : SameCalls m.state σ → ◌≡◌ {A = Option (Stop × Moment)} (Some (AtEnd (Halted (way_of line why)), record { state = σ; log = m.log ++ w }))
        (Some (stop, m'))
        → Onward m m'
    here h e = let q = ap (λ (x : Stop × Moment). x.1) (some_same e) in record {
      log = w;
      grown = ap (λ (x : Moment). x.log) (sym q);
      same = record {
        calls = ap (λ (x : Moment). x.state.calls) (sym q) ∙ h.calls;
        depth = ap (λ (x : Moment). x.state.depth) (sym q) ∙ h.depth;
        output = subst (λ (x : Moment). length x.state.output + x.state.steps ≤ length m.state.output + m.state.steps) q h.output;
        items = ap (λ (x : Moment). x.state.items) (sym q) ∙ h.items;
      };
    }

at_once : (first stop : Stop) (m m' : Moment) → ◌≡◌ {A = Option (Stop × Moment)} (Some (first, m)) (Some (stop, m')) → Onward m m'
at_once first stop m m' e = let q = ap (λ (x : Stop × Moment). x.1) (some_same e) in record {
  log = [];
  grown = ap (λ (x : Moment). x.log) (sym q) ∙ sym (append-nil m.log);
  same = record {
    calls = ap (λ (x : Moment). x.state.calls) (sym q);
    depth = ap (λ (x : Moment). x.state.depth) (sym q);
    output = subst (λ (x : Moment). length x.state.output + x.state.steps ≤ length m.state.output + m.state.steps) q (omega arith);
    items = ap (λ (x : Moment). x.state.items) (sym q);
  };
}

pub onward : (p : ProgramRows) (k : ℕ) (t : ActTree) (m : Moment) (stop : Stop) (m' : Moment) → next_stop p k t m ≡ Some (stop, m') → Onward m m'
onward p zero t m stop m' h = absurd (none_some h)
onward p (suc k) (Ret out) m stop m' h = at_once _ stop m m' h
onward p (suc k) (Halt line why) m stop m' h = at_once _ stop m m' h
onward p (suc k) Meaningless m stop m' h = absurd (none_some h)
onward p (suc k) (Do line act next) m stop m' h =
    onward_act line m (perform act m.state) _ stop m' (λ x m1 e. onward p k (next x) m1 stop m' e) (kept_act act m.state) h
onward p (suc k) (Sub part next) m stop m' h = onward p k (bind (layer p part) next) m stop m' h
onward p (suc k) (Enter e next) m stop m' h = at_once _ stop m m' h
onward p (suc k) (Line line next) m stop m' h =
    onward_act line m (perform (Spend 1) m.state) _ stop m' (λ x m1 e. at_once _ stop m1 m' e) (kept_act (Spend 1) m.state) h
