-- Two states that agree on what touches still show: each act gives both the same answer, and keeps them in agreement.
-- Each act has a clause of `act_again`.
use Rattle.std.proofs.Common.{if◌then◌else◌, ◌&&◌, ◌++◌, ◌+◌, ◌-◌, ◌<◌, ◌||◌, ◌∙◌, ◌∷◌, ◌≡◌, ◌≤◌, ◌⊎◌, [], ℕ, Bool, List, None, Option, Some, ap, arith, false}
use Rattle.std.proofs.Common.{fold, inl, inr, is_some, map, max, nat_le, nat_lt, refl, replicate, subst, sym, true}
use Rattle.std.{proofs.lemmas.Bool.Decides.eqb_tells, proofs.lemmas.Bool.Decides.nat_tests, specs.FinMap.get, specs.FinMap.insert, specs.List.slice_get}
use Rattle.cell_value.specs.Effects.{change_by, heap_end, looked_by, looked_of, made_of}
use Rattle.cell_value.specs.declared.entries.{Change.Change, Change.TheVariants.Gone, Change.TheVariants.Set, Touch.Touch}
use Rattle.cell_value.specs.declared.values.Value.{Value, TheVariants.Undefined}
use Rattle.cell_value.specs.declared.ways_out.{Kind.Kind, Which.TheVariants.Calls, Which.TheVariants.Depth, Which.TheVariants.Heap, Which.TheVariants.Stack}
use Rattle.core_program.proofs.{Effects.SameLog, Effects.relative, OutcomesCompose.none_some, Touches.Serves, Touches.left_with}
use Rattle.core_program.proofs.ActsLeave.{MayEnter, made_append}
use Rattle.core_program.proofs.Cells.{Map, block_dropped, block_made, got_other, got_same}
use Rattle.core_program.specs.Acts.{Act, ActResult, DropBlock, Fault, GiveByte, HasCell, Limited, MakeBlock, OutOfSteps, ReadCell, Spend, Stops, TakeIf}
use Rattle.core_program.specs.Acts.{Trouble, Went, WriteCell, after_touches, drop_block, dropped_block, limit_passed, look_item, made_block, make_block}
use Rattle.core_program.specs.Acts.{on_cell, perform, put_asked, put_if, put_value, read_as, spent, take_item, take_looked, with_steps}
use Rattle.core_program.specs.Blocks.{block_cells, cleared, filled, lies_in_heap}
use Rattle.core_program.specs.State.{State, is_in_reach, most_calls, most_depth, stack_end}

-- the cells of the second serve the touches as those of the first do
abbrev pub SameCells : List Touch → Map → Map → Type 0
SameCells w m k = (a : ℕ) → (get m a ≡ get k a) ⊎ Serves (get k a) a w

-- In both states the input was taken as far, from the places where the runs began.
abbrev pub SamePlace : (from to : ℕ) → (place place' : ℕ) → Type 0
SamePlace from to a b = (from ≤ a) × (a + to ≡ b + from)

-- The second state serves touches as the first does. The runs of which they are part began at the places `from` and `to`
-- of the input.
pub record Agree (from to : ℕ) (w : List Touch) (σ τ : State) : Type 0 where
  pub top : σ.top ≡ τ.top
  pub fresh : 0 < made_of w → σ.fresh ≡ τ.fresh
  pub cells : SameCells w σ.cells τ.cells
  pub place : SamePlace from to σ.place τ.place
  pub items : (n : ℕ) → n < looked_of from w → slice_get σ.items (from + n) ≡ slice_get τ.items (to + n)

-- what both lost or won of these is the same
pub record InStep (σ τ σ1 τ1 : State) : Type 0 where
  pub steps : τ1.steps + σ.steps ≡ σ1.steps + τ.steps
  pub calls : τ1.calls + σ.calls ≡ σ1.calls + τ.calls
  pub depth : τ1.depth + σ.depth ≡ σ1.depth + τ.depth

pub step_same : (σ τ : State) → InStep σ τ σ τ
step_same σ τ = record { steps = omega arith; calls = omega arith; depth = omega arith }

abbrev pub IsFault : Trouble → Type 0
IsFault (Fault k) = Unit {0}
IsFault why = ⊥

-- ---- what was done

abbrev pub ByItself : {A : Type 0} → ActResult A → Type 0
ByItself (Went x w σ) = Unit {0}
ByItself (Stops why w σ) = IsFault why

abbrev pub log_of : {A : Type 0} → ActResult A → List Touch
log_of (Went x w σ) = w
log_of (Stops why w σ) = w

abbrev pub state_of : {A : Type 0} → ActResult A → State
state_of (Went x w σ) = σ
state_of (Stops why w σ) = σ

-- the same was done, with these touches and this state after it
abbrev pub done_as : {A : Type 0} → ActResult A → List Touch → State → ActResult A
done_as (Went x w σ) v τ = Went x v τ
done_as (Stops why w σ) v τ = Stops why v τ

touches_after : {A : Type 0} (w : List Touch) (d : ActResult A) → log_of (after_touches w d) ≡ w ++ log_of d
touches_after w (Went x v σ) = refl
touches_after w (Stops why v σ) = refl

state_after : {A : Type 0} (w : List Touch) (d : ActResult A) → state_of (after_touches w d) ≡ state_of d
state_after w (Went x v σ) = refl
state_after w (Stops why v σ) = refl

itself_after : {A : Type 0} (w : List Touch) (d : ActResult A) → ByItself (after_touches w d) → ByItself d
itself_after w (Went x v σ) h = h
itself_after w (Stops why v σ) h = h

done_after : {A : Type 0} (w x : List Touch) (d : ActResult A) (v : List Touch) (τ : State)
    → after_touches x (done_as d v τ) ≡ done_as (after_touches w d) (x ++ v) τ
done_after w x (Went y u σ) v τ = refl
done_after w x (Stops why u σ) v τ = refl

-- the furthest look is as far as each
max_least : (m : ℕ) (ns : List ℕ) → m ≤ fold max m ns
max_least m [] = omega arith
max_least m (n ∷ ns) = omega (arith, max_least (max m n) ns)

max_more : (m k : ℕ) (ns : List ℕ) → m ≤ k → fold max m ns ≤ fold max k ns
max_more m k [] h = h
max_more m k (n ∷ ns) h = max_more (max m n) (max k n) ns (omega (arith, h))

looked_later : (from : ℕ) (t : Touch) (w : List Touch) → looked_of from w ≤ looked_of from (t ∷ w)
looked_later from t w = max_more 0 (max 0 (looked_by from t)) (map (looked_by from) w) (omega arith)

looked_first : (from : ℕ) (t : Touch) (w : List Touch) → looked_by from t ≤ looked_of from (t ∷ w)
looked_first from t w = omega (arith, max_least (max 0 (looked_by from t)) (map (looked_by from) w))

module _ (from to : ℕ) where
  -- `d` was done from the first state, and the second one does the same in `e`; `u` are the touches that are to come
  pub record DidAgain {A : Type 0} (d e : ActResult A) (σ τ : State) (u : List Touch) : Type 0 where
    pub log : List Touch
    pub after : State
    pub is : e ≡ done_as d log after
    pub same : SameLog from to (log_of d) log
    pub agree : Agree from to u (state_of d) after
    pub step : InStep σ τ (state_of d) after

  -- what was done by itself from the first state is done from the second, where that agrees and has steps enough
  abbrev pub DoneAgain : {A : Type 0} → (d e : ActResult A) → (σ τ : State) → List Touch → Type 0
  DoneAgain d e σ τ u = Agree from to (log_of d ++ u) σ τ → σ.steps ≤ τ.steps + (state_of d).steps → ByItself d → DidAgain d e σ τ u

  agree_steps : (u : List Touch) (σ τ : State) (k l : ℕ) → Agree from to u σ τ → Agree from to u (record σ { steps = k }) (record τ { steps = l })
  agree_steps u σ τ k l h = record { top = h.top; fresh = h.fresh; cells = h.cells; place = h.place; items = h.items }

  -- an act goes on from what is left of the steps, and leaves no more of them
  abbrev GoesOn : {A : Type 0} → (State → ActResult A) → (σ τ : State) → List Touch → Type 0
  GoesOn go σ τ u = (k l : ℕ) → ((state_of (go (record σ { steps = k }))).steps ≤ k)
      × DoneAgain (go (record σ { steps = k })) (go (record τ { steps = l })) (record σ { steps = k }) (record τ { steps = l }) u

  stepped : {A : Type 0} (n : ℕ) (σ τ : State) (u : List Touch) (go : State → ActResult A) → GoesOn go σ τ u
      → DoneAgain (with_steps n σ go) (with_steps n τ go) σ τ u
  stepped {A} n σ τ u go h = by (nat_lt σ.steps n) (nat_lt τ.steps n) refl refl
    where
      went : (k l : ℕ) → σ.steps ≡ k + n → τ.steps ≡ l + n → DoneAgain (go (record σ { steps = k })) (go (record τ { steps = l })) σ τ u
      went k l e f = λ g s i.
          let a = (h k l).1 (agree_steps _ σ τ k l g) (omega (arith, s)) i in
          record {
            log = a.log;
            after = a.after;
            is = a.is;
            same = a.same;
            agree = a.agree;
            step = record { steps = omega (arith, a.step.steps); calls = a.step.calls; depth = a.step.depth };
          }

      by : (a b : Bool) → nat_lt σ.steps n ≡ a → nat_lt τ.steps n ≡ b
          → DoneAgain {A = A} (if a then Stops OutOfSteps [] (spent σ) else go (record σ { steps = σ.steps - n }))
          (if b then Stops OutOfSteps [] (spent τ) else go (record τ { steps = τ.steps - n })) σ τ u
      by true b e f = λ g s i. absurd i
      by false false e f =
          let k : n ≤ σ.steps = grind (arith, nat_tests) in
          let l : n ≤ τ.steps = grind (arith, nat_tests) in
          went (σ.steps - n) (τ.steps - n) (omega arith) (omega arith)
      by false true e f =
          let k : n ≤ σ.steps = grind (arith, nat_tests) in
          let l : τ.steps < n = grind (arith, nat_tests) in
          λ g s i. absurd (let z = (h (σ.steps - n) 0).0 in omega (arith, s, z))

  -- under agreement the second may be told otherwise
  told : {A : Type 0} (d a b : ActResult A) (σ τ : State) (u : List Touch) → (Agree from to (log_of d ++ u) σ τ → b ≡ a) → DoneAgain d a σ τ u
      → DoneAgain d b σ τ u
  told d a b σ τ u e h = λ g s i.
      let r = h g s i in
      record { log = r.log; after = r.after; is = e g ∙ r.is; same = r.same; agree = r.agree; step = r.step }

  same_reach : (σ τ : State) (addr : ℕ) → σ.top ≡ τ.top → is_in_reach σ addr ≡ is_in_reach τ addr
  same_reach σ τ addr e = ap (λ t. nat_lt addr t || (nat_le stack_end addr && nat_lt addr heap_end)) e

  celled : {A : Type 0} (addr : ℕ) (σ τ : State) (u : List Touch) (go : State → ActResult A) → GoesOn go σ τ u
      → DoneAgain (on_cell addr σ go) (on_cell addr τ go) σ τ u
  celled {A} addr σ τ u go h = by (is_in_reach σ addr) refl
    where
      reach : Bool → ActResult A
      reach b = if b then with_steps 1 τ go else Stops (Fault Kind.Undefined) [] τ

      by : (b : Bool) → is_in_reach σ addr ≡ b
          → DoneAgain {A = A} (if b then with_steps 1 σ go else Stops (Fault Kind.Undefined) [] σ) (on_cell addr τ go) σ τ u
      by true e = told (with_steps 1 σ go) (with_steps 1 τ go) (on_cell addr τ go) σ τ u
          (λ g. ap reach (sym (same_reach σ τ addr g.top) ∙ e)) (stepped 1 σ τ u go h)
      by false e = λ g s i. record {
        log = [];
        after = τ;
        is = ap reach (sym (same_reach σ τ addr g.top) ∙ e);
        same = refl;
        agree = g;
        step = step_same σ τ;
      }

  -- after a touch that changes no cell
  after_read : (addr : ℕ) (v : Value) (u : List Touch) (σ τ : State) → Agree from to (Touch.Read addr v ∷ u) σ τ → Agree from to u σ τ
  after_read addr v u σ τ h = record {
    top = h.top;
    fresh = h.fresh;
    cells = λ a. elim (h.cells a) [ inl s ↦ inl s | inr s ↦ inr (s.1 refl) ];
    place = h.place;
    items = h.items;
  }

  after_has : (addr : ℕ) (b : Bool) (u : List Touch) (σ τ : State) → Agree from to (Touch.Has addr b ∷ u) σ τ → Agree from to u σ τ
  after_has addr b u σ τ h = record {
    top = h.top;
    fresh = h.fresh;
    cells = λ a. elim (h.cells a) [ inl s ↦ inl s | inr s ↦ inr (s.1 refl) ];
    place = h.place;
    items = h.items;
  }

  after_write : (addr : ℕ) (v : Value) (u : List Touch) (σ τ : State) → Agree from to (Touch.Write addr v ∷ u) σ τ
      → Agree from to u (record σ { cells = insert σ.cells addr v }) (record τ { cells = insert τ.cells addr v })
  after_write addr v u σ τ h = record {
    top = h.top;
    fresh = h.fresh;
    cells = λ a. elim (eqb_tells addr a) [
      | inl r ↦ inl (got_same σ.cells addr v a (sym r.1) ∙ sym (got_same τ.cells addr v a (sym r.1)))
      | inr r ↦ elim (h.cells a) [
        | inl s ↦ inl (got_other σ.cells addr v a (λ z. r.1 (sym z)) ∙ s ∙ sym (got_other τ.cells addr v a (λ z. r.1 (sym z))))
        | inr s ↦ inr (subst (λ o. Serves o a u) (sym (got_other τ.cells addr v a (λ z. r.1 (sym z)))) (s.1 (ap (λ t. if t then Some (Set v) else None) r.0)))
      ]
    ];
    place = h.place;
    items = h.items;
  }

  after_look : (u : List Touch) (σ τ : State) → Agree from to (Touch.Look σ.place ∷ u) σ τ → Agree from to u σ τ
  after_look u σ τ h = record {
    top = h.top;
    fresh = h.fresh;
    cells = λ a. elim (h.cells a) [ inl s ↦ inl s | inr s ↦ inr (s.1 refl) ];
    place = h.place;
    items = λ n k. h.items n (omega (arith, k, looked_later from (Touch.Look σ.place) u));
  }

  after_take : (u : List Touch) (σ τ : State) → Agree from to (Touch.Take 1 ∷ u) σ τ
      → Agree from to u (record σ { place = σ.place + 1 }) (record τ { place = τ.place + 1 })
  after_take u σ τ h = record {
    top = h.top;
    fresh = h.fresh;
    cells = λ a. elim (h.cells a) [ inl s ↦ inl s | inr s ↦ inr (s.1 refl) ];
    place = (omega (arith, h.place.0), omega (arith, h.place.1));
    items = h.items;
  }

  after_give : (byte : ℕ) (u : List Touch) (σ τ : State) → Agree from to (Touch.Give byte ∷ u) σ τ
      → Agree from to u (record σ { output = σ.output ++ byte ∷ [] }) (record τ { output = τ.output ++ byte ∷ [] })
  after_give byte u σ τ h = record {
    top = h.top;
    fresh = h.fresh;
    cells = λ a. elim (h.cells a) [ inl s ↦ inl s | inr s ↦ inr (s.1 refl) ];
    place = h.place;
    items = h.items;
  }

  -- the second has the item at which the first looks
  same_item : (u : List Touch) (σ τ : State) → Agree from to (Touch.Look σ.place ∷ u) σ τ → slice_get σ.items σ.place ≡ slice_get τ.items τ.place
  same_item u σ τ h =
      let p = h.place in
      let n : σ.place - from < looked_of from (Touch.Look σ.place ∷ u) = omega (arith, p.0, looked_first from (Touch.Look σ.place) u) in
      ap (slice_get σ.items) (let e : σ.place ≡ from + (σ.place - from) = omega (arith, p.0) in e) ∙ h.items (σ.place - from) n
      ∙ ap (slice_get τ.items) (let e : to + (σ.place - from) ≡ τ.place = omega (arith, p.0, p.1) in e)

  -- what the second state holds where the first was read or asked
  held_too : (addr : ℕ) (v : Value) (u : List Touch) (σ τ : State) → get σ.cells addr ≡ Some v → Agree from to (Touch.Read addr v ∷ u) σ τ
      → get τ.cells addr ≡ Some v
  held_too addr v u σ τ e h = elim (h.cells addr) [ inl s ↦ sym s ∙ e | inr s ↦ s.0 refl ]

  there_too : (addr : ℕ) (b : Bool) (u : List Touch) (σ τ : State) → is_some (get σ.cells addr) ≡ b → Agree from to (Touch.Has addr b ∷ u) σ τ
      → is_some (get τ.cells addr) ≡ b
  there_too addr b u σ τ e h = elim (h.cells addr) [ inl s ↦ ap is_some (sym s) ∙ e | inr s ↦ s.0 refl ]

  none_of : (o : Option Value) → is_some o ≡ false → o ≡ None
  none_of None e = refl
  none_of (Some v) e = absurd (let z : true ≡ false = e in cc)

  -- a touch that is the same in both, after which they agree, and what was done after it
  record SameTouch (s t : Touch) (σ τ : State) : Type 0 where
    same : relative from s ≡ relative to t
    agree : (w : List Touch) → Agree from to (s ∷ w) σ τ → Agree from to w σ τ

  touched_first : {A : Type 0} (s t : Touch) (σ τ : State) (u : List Touch) (d e : ActResult A)
      → (Agree from to (log_of (after_touches (s ∷ []) d) ++ u) σ τ → SameTouch s t σ τ) → DoneAgain d e σ τ u
      → DoneAgain (after_touches (s ∷ []) d) (after_touches (t ∷ []) e) σ τ u
  touched_first s t σ τ u d e same h = λ g n i.
      let q = same g in
      let a = h (q.agree (log_of d ++ u) (subst (λ l. Agree from to (l ++ u) σ τ) (touches_after (s ∷ []) d) g))
      (subst (λ υ. σ.steps ≤ τ.steps + υ.steps) (state_after (s ∷ []) d) n) (itself_after (s ∷ []) d i) in
      record {
        log = t ∷ a.log;
        after = a.after;
        is = ap (after_touches (t ∷ [])) a.is ∙ done_after (s ∷ []) (t ∷ []) d a.log a.after;
        same = ap (map (relative from)) (touches_after (s ∷ []) d) ∙ ap (λ x. x ∷ map (relative from) (log_of d)) q.same ∙ ap (λ l. relative to t ∷ l) a.same;
        agree = subst (λ υ. Agree from to u υ a.after) (sym (state_after (s ∷ []) d)) a.agree;
        step = subst (λ υ. InStep σ τ υ a.after) (sym (state_after (s ∷ []) d)) a.step;
      }

  -- an answer, and what was done after it
  asked_first : {A : Type 0} (addr : ℕ) (b : Bool) (σ τ : State) (u : List Touch) (d e : ActResult A) → DoneAgain d e σ τ u
      → DoneAgain (after_touches (Touch.Has addr b ∷ []) d) (after_touches (Touch.Has addr b ∷ []) e) σ τ u
  asked_first addr b σ τ u d e h = touched_first (Touch.Has addr b) (Touch.Has addr b) σ τ u d e
      (λ g. record { same = refl; agree = λ w k. after_has addr b w σ τ k }) h

  put_again : (addr : ℕ) (v : Value) (σ τ : State) (u : List Touch) → DoneAgain (put_value addr v σ) (put_value addr v τ) σ τ u
  put_again addr v σ τ u = λ g s i. record {
    log = Touch.Write addr v ∷ [];
    after = record τ { cells = insert τ.cells addr v };
    is = refl;
    same = refl;
    agree = after_write addr v u σ τ g;
    step = record { steps = omega arith; calls = omega arith; depth = omega arith };
  }

  put_if_again : (there : Bool) (addr : ℕ) (v : Value) (σ τ : State) (u : List Touch) → DoneAgain (put_if there addr v σ) (put_if there addr v τ) σ τ u
  put_if_again true addr v σ τ u = stepped 1 σ τ u (put_value addr v)
      (λ k l. (omega arith, put_again addr v (record σ { steps = k }) (record τ { steps = l }) u))
  put_if_again false addr v σ τ u = λ g s i. record { log = []; after = τ; is = refl; same = refl; agree = g; step = step_same σ τ }

  asked_again : (there : Bool) (addr : ℕ) (v : Value) (σ τ : State) (u : List Touch) → is_some (get σ.cells addr) ≡ there
      → DoneAgain (put_asked there addr v σ) (put_asked (is_some (get τ.cells addr)) addr v τ) σ τ u
  asked_again there addr v σ τ u e =
      told (put_asked there addr v σ) (put_asked there addr v τ) (put_asked (is_some (get τ.cells addr)) addr v τ) σ τ u
      (λ g. ap (λ b. put_asked b addr v τ) (there_too addr there (log_of (put_if there addr v σ) ++ u) σ τ e
      (subst (λ l. Agree from to (l ++ u) σ τ) (touches_after (Touch.Has addr there ∷ []) (put_if there addr v σ)) g)))
      (asked_first addr there σ τ u (put_if there addr v σ) (put_if there addr v τ) (put_if_again there addr v σ τ u))

  put_no_more : (there : Bool) (addr : ℕ) (v : Value) (σ : State) → (state_of (put_asked there addr v σ)).steps ≤ σ.steps
  put_no_more true addr v σ = by (nat_lt σ.steps 1)
    where
      by : (b : Bool) → (state_of (after_touches (Touch.Has addr true ∷ [])
          (if b then Stops OutOfSteps [] (spent σ) else put_value addr v (record σ { steps = σ.steps - 1 })))).steps ≤ σ.steps
      by true = omega arith
      by false = omega arith
  put_no_more false addr v σ = omega arith

  abbrev writing : ℕ → Value → State → ActResult Bool
  writing addr v τ = if nat_lt addr stack_end then put_value addr v τ else put_asked (is_some (get τ.cells addr)) addr v τ

  write_again : (addr : ℕ) (v : Value) (σ τ : State) (u : List Touch) → ((state_of (writing addr v σ)).steps ≤ σ.steps)
      × DoneAgain (writing addr v σ) (writing addr v τ) σ τ u
  write_again addr v σ τ u = by (nat_lt addr stack_end)
    where
      by : (b : Bool) → ((state_of (if b then put_value addr v σ else put_asked (is_some (get σ.cells addr)) addr v σ)).steps ≤ σ.steps)
          × DoneAgain (if b then put_value addr v σ else put_asked (is_some (get σ.cells addr)) addr v σ)
          (if b then put_value addr v τ else put_asked (is_some (get τ.cells addr)) addr v τ) σ τ u
      by true = (omega arith, put_again addr v σ τ u)
      by false = (put_no_more (is_some (get σ.cells addr)) addr v σ, asked_again (is_some (get σ.cells addr)) addr v σ τ u refl)

  read_again : (addr : ℕ) (o : Option Value) (σ τ : State) (u : List Touch) → get σ.cells addr ≡ o → ((state_of (read_as addr o σ)).steps ≤ σ.steps)
      × DoneAgain (read_as addr o σ) (read_as addr (get τ.cells addr) τ) σ τ u
  read_again addr (Some v) σ τ u q = (
    omega arith,
    λ g s i. record {
      log = Touch.Read addr v ∷ [];
      after = τ;
      is = ap (λ o. read_as addr o τ) (held_too addr v u σ τ q g);
      same = refl;
      agree = after_read addr v u σ τ g;
      step = step_same σ τ;
    },
  )
  read_again addr None σ τ u q = (
    omega arith,
    λ g s i. record {
      log = Touch.Has addr false ∷ [];
      after = τ;
      is = ap (λ o. read_as addr o τ) (none_of (get τ.cells addr) (there_too addr false u σ τ (ap is_some q) g));
      same = refl;
      agree = after_has addr false u σ τ g;
      step = step_same σ τ;
    },
  )

  -- ---- blocks

  -- the second map is what a touch leaves of the first
  record Changed (t : Touch) (m m' : Map) : Type 0 where
    pub at : (a : ℕ) → get m' a ≡ left_with (change_by a t) (get m a)

  -- where both maps changed as a touch says, they serve the touches after it alike
  after_change : {m k m' k' : Map} (t : Touch) (u : List Touch) → Changed t m m' → Changed t k k' → SameCells (t ∷ u) m k → SameCells u m' k'
  after_change {m = m} {k = k} {m' = m'} {k' = k'} t u e f h = λ a. by a (change_by a t) refl (h a)
    where
      first : (a : ℕ) (c : Option Change) → change_by a t ≡ c → get m' a ≡ left_with c (get m a)
      first a c q = e.at a ∙ ap (λ c. left_with c (get m a)) q

      second : (a : ℕ) (c : Option Change) → change_by a t ≡ c → get k' a ≡ left_with c (get k a)
      second a c q = f.at a ∙ ap (λ c. left_with c (get k a)) q

      by : (a : ℕ) (c : Option Change) → change_by a t ≡ c → (get m a ≡ get k a) ⊎ Serves (get k a) a (t ∷ u)
          → (get m' a ≡ get k' a) ⊎ Serves (get k' a) a u
      by a None q (inl s) = inl (first a None q ∙ s ∙ sym (second a None q))
      by a None q (inr s) = inr (subst (λ o. Serves o a u) (sym (second a None q)) (s.1 q))
      by a (Some (Set v)) q s = inl (first a (Some (Set v)) q ∙ sym (second a (Some (Set v)) q))
      by a (Some Gone) q s = inl (first a (Some Gone) q ∙ sym (second a (Some Gone) q))

  -- where a block is made the heap is free from the same address on
  same_fresh : (n of' : ℕ) (σ τ : State) (u : List Touch) → 1 ≤ n → Agree from to (Touch.Make σ.fresh n of' ∷ u) σ τ → σ.fresh ≡ τ.fresh
  same_fresh n of' σ τ u l g = g.fresh (omega (arith, l, made_append (Touch.Make σ.fresh n of' ∷ []) u))

  made_again : (n of' : ℕ) (σ τ : State) (u : List Touch) → 1 ≤ n → DoneAgain (made_block n of' σ) (made_block n of' τ) σ τ u
  made_again n of' σ τ u l = λ g s i.
      let f = same_fresh n of' σ τ u l g in
      let after : State = record τ { cells = filled τ.fresh (replicate n Undefined) τ.cells; fresh = τ.fresh + n } in
      record {
        log = Touch.Make τ.fresh n of' ∷ [];
        after = after;
        is = ap (λ a. Went a (Touch.Make τ.fresh n of' ∷ []) after) (sym f);
        same = ap (λ a. Touch.Make a n of' ∷ []) f;
        agree = record {
          top = g.top;
          fresh = λ m. ap (λ a. a + n) f;
          cells = after_change (Touch.Make σ.fresh n of') u (record { at = block_made σ.fresh n σ.cells })
              (subst (λ a. Changed (Touch.Make σ.fresh n of') τ.cells (filled a (replicate n Undefined) τ.cells)) f
              (record { at = block_made σ.fresh n τ.cells })) g.cells;
          place = g.place;
          items = g.items;
        };
        step = record { steps = omega arith; calls = omega arith; depth = omega arith };
      }

  make_again : (n of' : ℕ) (σ τ : State) (u : List Touch) → 1 ≤ n → DoneAgain (make_block n of' σ) (make_block n of' τ) σ τ u
  make_again n of' σ τ u l = by (nat_lt heap_end (σ.fresh + n)) refl
    where
      fits : (b : Bool) → Agree from to (log_of (if b then Stops OutOfSteps [] (spent σ) else made_block n of' (record σ { steps = σ.steps - n })) ++ u) σ τ
          → ByItself (if b then Stops OutOfSteps [] (spent σ) else made_block n of' (record σ { steps = σ.steps - n })) → σ.fresh ≡ τ.fresh
      fits true g i = absurd i
      fits false g i = same_fresh n of' σ τ u l g

      limited : Bool → ActResult ℕ
      limited b = if b then Stops (Limited Heap) [] τ else with_steps n τ (made_block n of')

      by : (b : Bool) → nat_lt heap_end (σ.fresh + n) ≡ b
          → DoneAgain (if b then Stops (Limited Heap) [] σ else with_steps n σ (made_block n of')) (make_block n of' τ) σ τ u
      by true e = λ g s i. absurd i
      by false e = λ g s i.
          let r = stepped n σ τ u (made_block n of') (λ k m. (omega arith, made_again n of' (record σ { steps = k }) (record τ { steps = m }) u l)) g s i in
          record {
            log = r.log;
            after = r.after;
            is = ap limited (ap (λ f. nat_lt heap_end (f + n)) (sym (fits (nat_lt σ.steps n) g i)) ∙ e) ∙ r.is;
            same = r.same;
            agree = r.agree;
            step = r.step;
          }

  dropped_again : (addr n : ℕ) (σ τ : State) (u : List Touch) → DoneAgain (dropped_block addr n σ) (dropped_block addr n τ) σ τ u
  dropped_again addr n σ τ u = λ g s i. record {
    log = Touch.Drop addr n ∷ [];
    after = record τ { cells = cleared addr n τ.cells };
    is = refl;
    same = refl;
    agree = record {
      top = g.top;
      fresh = g.fresh;
      cells = after_change (Touch.Drop addr n) u (record { at = block_dropped addr n σ.cells }) (record { at = block_dropped addr n τ.cells }) g.cells;
      place = g.place;
      items = g.items;
    };
    step = record { steps = omega arith; calls = omega arith; depth = omega arith };
  }

  drop_again : (addr n : ℕ) (σ τ : State) (u : List Touch) → DoneAgain (drop_block addr n σ) (drop_block addr n τ) σ τ u
  drop_again addr n σ τ u = by (lies_in_heap addr n)
    where
      by : (b : Bool) → DoneAgain (if b then with_steps n σ (dropped_block addr n) else Stops (Fault Kind.Undefined) [] σ)
          (if b then with_steps n τ (dropped_block addr n) else Stops (Fault Kind.Undefined) [] τ) σ τ u
      by true = stepped n σ τ u (dropped_block addr n) (λ k m. (omega arith, dropped_again addr n (record σ { steps = k }) (record τ { steps = m }) u))
      by false = λ g s i. record { log = []; after = τ; is = refl; same = refl; agree = g; step = step_same σ τ }

  -- ---- items and bytes

  -- the second state takes the item too
  took_again : (wanted : ℕ → Bool) (o : Option ℕ) (σ τ : State) (u : List Touch) → DoneAgain (take_looked wanted o σ) (take_looked wanted o τ) σ τ u
  took_again wanted None σ τ u = λ g s i. record { log = []; after = τ; is = refl; same = refl; agree = g; step = step_same σ τ }
  took_again wanted (Some item) σ τ u = by (wanted item)
    where
      taken : State → ActResult (Option ℕ)
      taken τ = Went (Some item) (Touch.Take 1 ∷ []) (record τ { place = τ.place + 1 })

      once : (k l : ℕ) → DoneAgain (taken (record σ { steps = k })) (taken (record τ { steps = l })) (record σ { steps = k }) (record τ { steps = l }) u
      once k l = λ g s i. record {
        log = Touch.Take 1 ∷ [];
        after = record τ { place = τ.place + 1; steps = l };
        is = refl;
        same = refl;
        agree = after_take u (record σ { steps = k }) (record τ { steps = l }) g;
        step = record { steps = omega arith; calls = omega arith; depth = omega arith };
      }

      by : (b : Bool) → DoneAgain (take_item b item σ) (take_item b item τ) σ τ u
      by true = stepped 1 σ τ u taken (λ k l. (omega arith, once k l))
      by false = λ g s i. record { log = []; after = τ; is = refl; same = refl; agree = g; step = step_same σ τ }

  took_no_more : (wanted : ℕ → Bool) (o : Option ℕ) (σ : State) → (state_of (take_looked wanted o σ)).steps ≤ σ.steps
  took_no_more wanted None σ = omega arith
  took_no_more wanted (Some item) σ = by (wanted item)
    where
      left : (b : Bool) → (state_of (if b then Stops OutOfSteps [] (spent σ)
          else Went (Some item) (Touch.Take 1 ∷ []) (record σ { place = σ.place + 1; steps = σ.steps - 1 }))).steps ≤ σ.steps
      left true = omega arith
      left false = omega arith

      by : (b : Bool) → (state_of (take_item b item σ)).steps ≤ σ.steps
      by true = left (nat_lt σ.steps 1)
      by false = omega arith

  -- it looks at the item that the first looks at
  look_again : (wanted : ℕ → Bool) (σ τ : State) (u : List Touch)
      → ((state_of (look_item wanted σ)).steps ≤ σ.steps) × DoneAgain (look_item wanted σ) (look_item wanted τ) σ τ u
  look_again wanted σ τ u = (
    subst (λ υ. υ.steps ≤ σ.steps) (sym (state_after (Touch.Look σ.place ∷ []) looked)) (took_no_more wanted (slice_get σ.items σ.place) σ),
    told (look_item wanted σ) (after_touches (Touch.Look τ.place ∷ []) (take_looked wanted (slice_get σ.items σ.place) τ)) (look_item wanted τ) σ τ u
        (λ g. ap (λ o. after_touches (Touch.Look τ.place ∷ []) (take_looked wanted o τ)) (sym (same_item (log_of looked ++ u) σ τ (first g))))
        (touched_first (Touch.Look σ.place) (Touch.Look τ.place) σ τ u looked (take_looked wanted (slice_get σ.items σ.place) τ)
        (λ g. record { same = ap Touch.Look (omega (arith, g.place.0, g.place.1)); agree = λ w k. after_look w σ τ k })
        (took_again wanted (slice_get σ.items σ.place) σ τ u)),
  )
    where
      looked : ActResult (Option ℕ)
      looked = take_looked wanted (slice_get σ.items σ.place) σ

      first : Agree from to (log_of (look_item wanted σ) ++ u) σ τ → Agree from to (Touch.Look σ.place ∷ (log_of looked ++ u)) σ τ
      first g = subst (λ l. Agree from to (l ++ u) σ τ) (touches_after (Touch.Look σ.place ∷ []) looked) g

  give_again : (byte : ℕ) (σ τ : State) (u : List Touch)
      → DoneAgain {A = Unit {0}} (Went tt (Touch.Give byte ∷ []) (record σ { output = σ.output ++ byte ∷ [] }))
      (Went tt (Touch.Give byte ∷ []) (record τ { output = τ.output ++ byte ∷ [] })) σ τ u
  give_again byte σ τ u = λ g s i. record {
    log = Touch.Give byte ∷ [];
    after = record τ { output = τ.output ++ byte ∷ [] };
    is = refl;
    same = refl;
    agree = after_give byte u σ τ g;
    step = record { steps = omega arith; calls = omega arith; depth = omega arith };
  }

  pub act_again : (act : Act) (σ τ : State) (u : List Touch) → DoneAgain (perform act σ) (perform act τ) σ τ u
  act_again (Spend n) σ τ u = stepped n σ τ u (λ τ. Went tt [] τ) (λ k l. (
    omega arith,
    λ g s i. record {
      log = [];
      after = record τ { steps = l };
      is = refl;
      same = refl;
      agree = g;
      step = step_same (record σ { steps = k }) (record τ { steps = l });
    },
  ))
  act_again (ReadCell addr) σ τ u = celled addr σ τ u (λ τ. read_as addr (get τ.cells addr) τ)
      (λ k l. read_again addr (get σ.cells addr) (record σ { steps = k }) (record τ { steps = l }) u refl)
  act_again (HasCell addr) σ τ u = celled addr σ τ u (λ τ. Went (is_some (get τ.cells addr)) (Touch.Has addr (is_some (get τ.cells addr)) ∷ []) τ)
      (λ k l. (
        omega arith,
        λ g s i. record {
          log = Touch.Has addr (is_some (get σ.cells addr)) ∷ [];
          after = record τ { steps = l };
          is = ap (λ b. Went b (Touch.Has addr b ∷ []) (record τ { steps = l }))
              (there_too addr (is_some (get σ.cells addr)) u (record σ { steps = k }) (record τ { steps = l }) refl g);
          same = refl;
          agree = after_has addr (is_some (get σ.cells addr)) u (record σ { steps = k }) (record τ { steps = l }) g;
          step = step_same (record σ { steps = k }) (record τ { steps = l });
        },
      ))
  act_again (WriteCell addr v) σ τ u = celled addr σ τ u (writing addr v)
      (λ k l. write_again addr v (record σ { steps = k }) (record τ { steps = l }) u)
  act_again (TakeIf wanted) σ τ u = stepped 1 σ τ u (look_item wanted)
      (λ k l. look_again wanted (record σ { steps = k }) (record τ { steps = l }) u)
  act_again (GiveByte byte) σ τ u = stepped 1 σ τ u (λ τ. Went tt (Touch.Give byte ∷ []) (record τ { output = τ.output ++ byte ∷ [] }))
      (λ k l. (omega arith, give_again byte (record σ { steps = k }) (record τ { steps = l }) u))
  act_again (MakeBlock cells of') σ τ u = make_again (block_cells cells) of' σ τ u (omega arith)
  act_again (DropBlock addr cells) σ τ u = drop_again addr (block_cells cells) σ τ u

-- ---- limits

-- where the first state passes no limit the second passes none, if it has room for a call
pub limit_none : (σ τ : State) (n : ℕ) → σ.top ≡ τ.top → limit_passed σ n ≡ None → MayEnter τ → limit_passed τ n ≡ None
limit_none σ τ n t e m = by (nat_lt most_calls (τ.calls + 1)) (nat_lt most_depth τ.depth) refl refl
  where
    room : (a b x : Bool) → (if a then Some Calls else if b then Some Depth else if x then Some Stack else None) ≡ None → x ≡ false
    room true b x e = absurd (none_some (sym e))
    room false true x e = absurd (none_some (sym e))
    room false false true e = absurd (none_some (sym e))
    room false false false e = refl

    by : (a b : Bool) → nat_lt most_calls (τ.calls + 1) ≡ a → nat_lt most_depth τ.depth ≡ b
        → (if a then Some Calls else if b then Some Depth else if nat_lt stack_end (τ.top + n) then Some Stack else None) ≡ None
    by true b f g = absurd (let z : most_calls < τ.calls + 1 = grind (arith, nat_tests) in omega (arith, m.calls))
    by false true f g = absurd (let z : most_depth < τ.depth = grind (arith, nat_tests) in omega (arith, m.depth))
    by false false f g = ap (λ x. if x then Some Stack else None) (ap (λ t. nat_lt stack_end (t + n)) (sym t)
        ∙ room (nat_lt most_calls (σ.calls + 1)) (nat_lt most_depth σ.depth) (nat_lt stack_end (σ.top + n)) e)
