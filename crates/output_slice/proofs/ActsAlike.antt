-- Two states that differ in nothing but the output and in cells that are not needed: each act does the same in both,
-- and they differ no more after it. Each act has a clause of `act_same`.
use Rattle.std.proofs.Common.{if◌then◌else◌, ◌++◌, ◌+◌, ◌-◌, ◌∙◌, ◌∷◌, ◌≡◌, [], ℕ, Bool, List, None, Option, Some, ap, arith, false, is_some, nat_eq, nat_lt}
use Rattle.std.proofs.Common.{refl, replicate, subst, sym, true}
use Rattle.std.{proofs.lemmas.Bool.Decides.nat_tests, specs.FinMap.get, specs.FinMap.insert, specs.List.slice_get}
use Rattle.cell_value.specs.Effects.{change_by, heap_end}
use Rattle.cell_value.specs.declared.{values.Value.Value, values.Value.TheVariants.Undefined, ways_out.Which.TheVariants.Heap}
use Rattle.cell_value.specs.declared.entries.{Change.Change, Change.TheVariants.Gone, Change.TheVariants.Set, Touch.Touch}
use Rattle.cell_value.specs.declared.entries.Touch.TheVariants as touch
use Rattle.cell_value.specs.declared.ways_out.Kind.TheVariants as kind
use Rattle.core_program.{proofs.Touches.left_with, specs.Run.Call, specs.State.State, specs.State.is_in_reach, specs.State.stack_end}
use Rattle.core_program.proofs.Cells.{Map, block_dropped, block_made, got_other, got_same}
use Rattle.core_program.specs.Acts.{Act, ActResult, DropBlock, Fault, GiveByte, HasCell, Limited, MakeBlock, OutOfSteps, ReadCell, Spend, Stops, TakeIf, Went}
use Rattle.core_program.specs.Acts.{WriteCell, after_touches, drop_block, dropped_block, look_item, made_block, make_block, on_cell, perform, put_asked, put_if}
use Rattle.core_program.specs.Acts.{put_value, read_as, spent, take_item, take_looked, with_steps}
use Rattle.core_program.specs.Blocks.{block_cells, cleared, filled, lies_in_heap}
use Rattle.output_slice.specs.{Backward.looks, Outputs.has_output, declared.outputs.Output.TheVariants.Cell}
use Rattle.output_slice.specs.Pieces.{OfChild, Own, Piece, own}

-- Whether what a cell holds is needed in pieces that are to come: where the caller itself looks at it, and where it is
-- needed later and stays as it is.
pub record IsNeed (needed : ℕ → List Piece → Bool) : Type 0 where
  pub looked : (a : ℕ) (t : Touch) (u : List Piece) → looks a t ≡ true → needed a (Own t ∷ u) ≡ true
  pub own : (a : ℕ) (t : Touch) (u : List Piece) → change_by a t ≡ None → needed a u ≡ true → needed a (Own t ∷ u) ≡ true
  pub child : (a n : ℕ) (c : Call) (u : List Piece) → has_output c (Cell a) ≡ false → needed a u ≡ true → needed a (OfChild n c ∷ u) ≡ true

pub false_true : false ≡ true → ⊥
false_true e = let z : false ≡ true = e in cc

-- the same state with other cells and another output
abbrev pub other : Map → List ℕ → State → State
other m o σ = record σ { cells = m; output = o }

abbrev pub log_of : {A : Type 0} → ActResult A → List Touch
log_of (Went x w σ) = w
log_of (Stops why w σ) = w

abbrev pub state_of : {A : Type 0} → ActResult A → State
state_of (Went x w σ) = σ
state_of (Stops why w σ) = σ

-- the same was done, with these cells and this output after it
abbrev pub done_with : {A : Type 0} → Map → List ℕ → ActResult A → ActResult A
done_with m o (Went x w σ) = Went x w (other m o σ)
done_with m o (Stops why w σ) = Stops why w (other m o σ)

touches_after : {A : Type 0} (w : List Touch) (d : ActResult A) → log_of (after_touches w d) ≡ w ++ log_of d
touches_after w (Went x v σ) = refl
touches_after w (Stops why v σ) = refl

state_after : {A : Type 0} (w : List Touch) (d : ActResult A) → state_of (after_touches w d) ≡ state_of d
state_after w (Went x v σ) = refl
state_after w (Stops why v σ) = refl

done_after : {A : Type 0} (w : List Touch) (m : Map) (o : List ℕ) (d : ActResult A)
    → after_touches w (done_with m o d) ≡ done_with m o (after_touches w d)
done_after w m o (Went x v σ) = refl
done_after w m o (Stops why v σ) = refl

module _ (needed : ℕ → List Piece → Bool) where
  -- each cell holds the same in both, or is not needed in what is to come; and is there in both or in neither
  pub record Alike (u : List Piece) (m k : Map) : Type 0 where
    pub there : (a : ℕ) → is_some (get m a) ≡ is_some (get k a)
    pub same : (a : ℕ) → needed a u ≡ true → get m a ≡ get k a

  -- `d` was done from a state, and `e` is the same with other cells and another output
  pub record Same {A : Type 0} (d e : ActResult A) (out o : List ℕ) (u : List Piece) : Type 0 where
    pub cells : Map
    pub output : List ℕ
    pub is : e ≡ done_with cells output d
    pub alike : Alike u (state_of d).cells cells
    pub bytes : out ≡ o → (state_of d).output ≡ output

  abbrev pub DoneSame : {A : Type 0} → (d e : ActResult A) → State → Map → List ℕ → List Piece → Type 0
  DoneSame d e σ m o u = Alike (own (log_of d) ++ u) σ.cells m → Same d e σ.output o u

module _ (needed : ℕ → List Piece → Bool) (is : IsNeed needed) where
  stepped : {A : Type 0} (n : ℕ) (σ : State) (m : Map) (o : List ℕ) (u : List Piece) (go : State → ActResult A)
      → ((k : ℕ) → DoneSame needed (go (record σ { steps = k })) (go (record (other m o σ) { steps = k })) σ m o u)
      → DoneSame needed (with_steps n σ go) (with_steps n (other m o σ) go) σ m o u
  stepped {A} n σ m o u go h = by (nat_lt σ.steps n)
    where
      by : (b : Bool) → DoneSame needed {A = A} (if b then Stops OutOfSteps [] (spent σ) else go (record σ { steps = σ.steps - n }))
          (if b then Stops OutOfSteps [] (spent (other m o σ)) else go (record (other m o σ) { steps = σ.steps - n })) σ m o u
      by true = λ g. record { cells = m; output = o; is = refl; alike = g; bytes = λ e. e }
      by false = h (σ.steps - n)

  celled : {A : Type 0} (addr : ℕ) (σ : State) (m : Map) (o : List ℕ) (u : List Piece) (go : State → ActResult A)
      → ((k : ℕ) → DoneSame needed (go (record σ { steps = k })) (go (record (other m o σ) { steps = k })) σ m o u)
      → DoneSame needed (on_cell addr σ go) (on_cell addr (other m o σ) go) σ m o u
  celled {A} addr σ m o u go h = by (is_in_reach σ addr)
    where
      by : (b : Bool) → DoneSame needed {A = A} (if b then with_steps 1 σ go else Stops (Fault kind.Undefined) [] σ)
          (if b then with_steps 1 (other m o σ) go else Stops (Fault kind.Undefined) [] (other m o σ)) σ m o u
      by true = stepped 1 σ m o u go h
      by false = λ g. record { cells = m; output = o; is = refl; alike = g; bytes = λ e. e }

  -- ---- one touch

  -- the second map is what a touch leaves of the first
  record Changed (t : Touch) (m k : Map) : Type 0 where
    pub at : (a : ℕ) → get k a ≡ left_with (change_by a t) (get m a)

  some_there : (c : Change) (x y : Option Value) → left_with (Some c) x ≡ left_with (Some c) y
  some_there (Set v) x y = refl
  some_there Gone x y = refl

  left_there : (c : Option Change) (x y : Option Value) → is_some x ≡ is_some y → is_some (left_with c x) ≡ is_some (left_with c y)
  left_there None x y e = e
  left_there (Some c) x y e = ap is_some (some_there c x y)

  -- where both maps changed as a touch says, they are alike after it
  after_touch : {m k m' k' : Map} (t : Touch) (u : List Piece) → Changed t m m' → Changed t k k' → Alike needed (Own t ∷ u) m k → Alike needed u m' k'
  after_touch {m = m} {k = k} {m' = m'} {k' = k'} t u e f h = record {
    there = λ a. ap is_some (e.at a) ∙ left_there (change_by a t) (get m a) (get k a) (h.there a) ∙ ap is_some (sym (f.at a));
    same = λ a n. e.at a ∙ by a (change_by a t) refl n ∙ sym (f.at a);
  }
    where
      by : (a : ℕ) (c : Option Change) → change_by a t ≡ c → needed a u ≡ true
          → left_with (change_by a t) (get m a) ≡ left_with (change_by a t) (get k a)
      by a None q n = ap (left_with (change_by a t)) (h.same a (is.own a t u q n))
      by a (Some c) q n = ap (λ c. left_with c (get m a)) q ∙ some_there c (get m a) (get k a) ∙ ap (λ c. left_with c (get k a)) (sym q)

  self_eq : (a : ℕ) → nat_eq a a ≡ true
  self_eq a = grind (arith, nat_tests)

  -- a cell that is read holds the same in both
  read_same : (addr : ℕ) (v : Value) (u : List Piece) (m k : Map) → Alike needed (Own (touch.Read addr v) ∷ u) m k → get m addr ≡ get k addr
  read_same addr v u m k h = h.same addr (is.looked addr (touch.Read addr v) u (self_eq addr))

  touched_first : {A : Type 0} (t : Touch) (σ : State) (m : Map) (o : List ℕ) (u : List Piece) (d e : ActResult A)
      → ((w : List Piece) → Alike needed (Own t ∷ w) σ.cells m → Alike needed w σ.cells m) → DoneSame needed d e σ m o u
      → DoneSame needed (after_touches (t ∷ []) d) (after_touches (t ∷ []) e) σ m o u
  touched_first t σ m o u d e f h = λ g.
      let a = h (f (own (log_of d) ++ u) (subst (λ l. Alike needed (own l ++ u) σ.cells m) (touches_after (t ∷ []) d) g)) in
      record {
        cells = a.cells;
        output = a.output;
        is = ap (after_touches (t ∷ [])) a.is ∙ done_after (t ∷ []) a.cells a.output d;
        alike = subst (λ τ. Alike needed u τ.cells a.cells) (sym (state_after (t ∷ []) d)) a.alike;
        bytes = λ q. ap (λ τ. τ.output) (state_after (t ∷ []) d) ∙ a.bytes q;
      }

  -- touches that change no cell
  after_has : (addr : ℕ) (b : Bool) (w : List Piece) (m k : Map) → Alike needed (Own (touch.Has addr b) ∷ w) m k → Alike needed w m k
  after_has addr b w m k = after_touch (touch.Has addr b) w (record { at = λ a. refl }) (record { at = λ a. refl })

  after_read : (addr : ℕ) (v : Value) (w : List Piece) (m k : Map) → Alike needed (Own (touch.Read addr v) ∷ w) m k → Alike needed w m k
  after_read addr v w m k = after_touch (touch.Read addr v) w (record { at = λ a. refl }) (record { at = λ a. refl })

  after_look : (at : ℕ) (w : List Piece) (m k : Map) → Alike needed (Own (touch.Look at) ∷ w) m k → Alike needed w m k
  after_look at w m k = after_touch (touch.Look at) w (record { at = λ a. refl }) (record { at = λ a. refl })

  after_take : (n : ℕ) (w : List Piece) (m k : Map) → Alike needed (Own (touch.Take n) ∷ w) m k → Alike needed w m k
  after_take n w m k = after_touch (touch.Take n) w (record { at = λ a. refl }) (record { at = λ a. refl })

  after_give : (byte : ℕ) (w : List Piece) (m k : Map) → Alike needed (Own (touch.Give byte) ∷ w) m k → Alike needed w m k
  after_give byte w m k = after_touch (touch.Give byte) w (record { at = λ a. refl }) (record { at = λ a. refl })

  write_changes : (addr : ℕ) (v : Value) (m : Map) → Changed (touch.Write addr v) m (insert m addr v)
  write_changes addr v m = record { at = λ a. by a (nat_eq addr a) refl }
    where
      by : (a : ℕ) (b : Bool) → nat_eq addr a ≡ b → get (insert m addr v) a ≡ left_with (if nat_eq addr a then Some (Set v) else None) (get m a)
      by a true e = got_same m addr v a (let q : addr ≡ a = grind (arith, nat_tests) in sym q)
          ∙ sym (ap (λ b. left_with (if b then Some (Set v) else None) (get m a)) e)
      by a false e = got_other m addr v a (λ q. false_true (sym e ∙ ap (nat_eq addr) q ∙ self_eq addr))
          ∙ sym (ap (λ b. left_with (if b then Some (Set v) else None) (get m a)) e)

  -- ---- cells

  put_same : (addr : ℕ) (v : Value) (σ : State) (m : Map) (o : List ℕ) (u : List Piece)
      → DoneSame needed (put_value addr v σ) (put_value addr v (other m o σ)) σ m o u
  put_same addr v σ m o u = λ g. record {
    cells = insert m addr v;
    output = o;
    is = refl;
    alike = after_touch (touch.Write addr v) u (write_changes addr v σ.cells) (write_changes addr v m) g;
    bytes = λ e. e;
  }

  put_if_same : (there : Bool) (addr : ℕ) (v : Value) (σ : State) (m : Map) (o : List ℕ) (u : List Piece)
      → DoneSame needed (put_if there addr v σ) (put_if there addr v (other m o σ)) σ m o u
  put_if_same true addr v σ m o u = stepped 1 σ m o u (put_value addr v) (λ k. put_same addr v (record σ { steps = k }) m o u)
  put_if_same false addr v σ m o u = λ g. record { cells = m; output = o; is = refl; alike = g; bytes = λ e. e }

  -- under alikeness the second may be told otherwise
  restated : {A : Type 0} (d a b : ActResult A) (σ : State) (m : Map) (o : List ℕ) (u : List Piece)
      → (Alike needed (own (log_of d) ++ u) σ.cells m → b ≡ a) → DoneSame needed d a σ m o u → DoneSame needed d b σ m o u
  restated d a b σ m o u e h = λ g.
      let r = h g in
      record { cells = r.cells; output = r.output; is = e g ∙ r.is; alike = r.alike; bytes = r.bytes }

  asked_same : (addr : ℕ) (v : Value) (σ : State) (m : Map) (o : List ℕ) (u : List Piece)
      → DoneSame needed (put_asked (is_some (get σ.cells addr)) addr v σ) (put_asked (is_some (get m addr)) addr v (other m o σ)) σ m o u
  asked_same addr v σ m o u =
      let there = is_some (get σ.cells addr) in
      restated (put_asked there addr v σ) (put_asked there addr v (other m o σ)) (put_asked (is_some (get m addr)) addr v (other m o σ)) σ m o u
      (λ g. ap (λ b. put_asked b addr v (other m o σ)) (sym (g.there addr)))
      (touched_first (touch.Has addr there) σ m o u (put_if there addr v σ) (put_if there addr v (other m o σ))
      (λ w. after_has addr there w σ.cells m) (put_if_same there addr v σ m o u))

  write_same : (addr : ℕ) (v : Value) (σ : State) (m : Map) (o : List ℕ) (u : List Piece)
      → DoneSame needed (if nat_lt addr stack_end then put_value addr v σ else put_asked (is_some (get σ.cells addr)) addr v σ)
      (if nat_lt addr stack_end then put_value addr v (other m o σ) else put_asked (is_some (get m addr)) addr v (other m o σ)) σ m o u
  write_same addr v σ m o u = by (nat_lt addr stack_end)
    where
      by : (b : Bool) → DoneSame needed (if b then put_value addr v σ else put_asked (is_some (get σ.cells addr)) addr v σ)
          (if b then put_value addr v (other m o σ) else put_asked (is_some (get m addr)) addr v (other m o σ)) σ m o u
      by true = put_same addr v σ m o u
      by false = asked_same addr v σ m o u

  none_of : (x : Option Value) → is_some x ≡ false → x ≡ None
  none_of None e = refl
  none_of (Some v) e = absurd (false_true (sym e))

  read_is : (addr : ℕ) (x : Option Value) (σ : State) (m : Map) (o : List ℕ) (u : List Piece) → get σ.cells addr ≡ x
      → DoneSame needed (read_as addr x σ) (read_as addr (get m addr) (other m o σ)) σ m o u
  read_is addr (Some v) σ m o u q = λ g. record {
    cells = m;
    output = o;
    is = ap (λ x. read_as addr x (other m o σ)) (sym (read_same addr v u σ.cells m g) ∙ q);
    alike = after_read addr v u σ.cells m g;
    bytes = λ e. e;
  }
  read_is addr None σ m o u q = λ g. record {
    cells = m;
    output = o;
    is = ap (λ x. read_as addr x (other m o σ)) (none_of (get m addr) (sym (g.there addr) ∙ ap is_some q));
    alike = after_has addr false u σ.cells m g;
    bytes = λ e. e;
  }

  -- ---- items, bytes and blocks

  took_same : (wanted : ℕ → Bool) (x : Option ℕ) (σ : State) (m : Map) (o : List ℕ) (u : List Piece)
      → DoneSame needed (take_looked wanted x σ) (take_looked wanted x (other m o σ)) σ m o u
  took_same wanted None σ m o u = λ g. record { cells = m; output = o; is = refl; alike = g; bytes = λ e. e }
  took_same wanted (Some item) σ m o u = by (wanted item)
    where
      taken : State → ActResult (Option ℕ)
      taken τ = Went (Some item) (touch.Take 1 ∷ []) (record τ { place = τ.place + 1 })

      by : (b : Bool) → DoneSame needed (take_item b item σ) (take_item b item (other m o σ)) σ m o u
      by true = stepped 1 σ m o u taken
          (λ k g. record { cells = m; output = o; is = refl; alike = after_take 1 u σ.cells m g; bytes = λ e. e })
      by false = λ g. record { cells = m; output = o; is = refl; alike = g; bytes = λ e. e }

  look_same : (wanted : ℕ → Bool) (σ : State) (m : Map) (o : List ℕ) (u : List Piece)
      → DoneSame needed (look_item wanted σ) (look_item wanted (other m o σ)) σ m o u
  look_same wanted σ m o u = touched_first (touch.Look σ.place) σ m o u (take_looked wanted (slice_get σ.items σ.place) σ)
      (take_looked wanted (slice_get σ.items σ.place) (other m o σ)) (λ w. after_look σ.place w σ.cells m)
      (took_same wanted (slice_get σ.items σ.place) σ m o u)

  make_same : (n of' : ℕ) (σ : State) (m : Map) (o : List ℕ) (u : List Piece)
      → DoneSame needed (make_block n of' σ) (make_block n of' (other m o σ)) σ m o u
  make_same n of' σ m o u = by (nat_lt heap_end (σ.fresh + n))
    where
      made : (k : ℕ) → DoneSame needed (made_block n of' (record σ { steps = k })) (made_block n of' (record (other m o σ) { steps = k })) σ m o u
      made k = λ g. record {
        cells = filled σ.fresh (replicate n Undefined) m;
        output = o;
        is = refl;
        alike = after_touch (touch.Make σ.fresh n of') u (record { at = block_made σ.fresh n σ.cells }) (record { at = block_made σ.fresh n m }) g;
        bytes = λ e. e;
      }

      by : (b : Bool) → DoneSame needed (if b then Stops (Limited Heap) [] σ else with_steps n σ (made_block n of'))
          (if b then Stops (Limited Heap) [] (other m o σ) else with_steps n (other m o σ) (made_block n of')) σ m o u
      by true = λ g. record { cells = m; output = o; is = refl; alike = g; bytes = λ e. e }
      by false = stepped n σ m o u (made_block n of') made

  drop_same : (addr n : ℕ) (σ : State) (m : Map) (o : List ℕ) (u : List Piece)
      → DoneSame needed (drop_block addr n σ) (drop_block addr n (other m o σ)) σ m o u
  drop_same addr n σ m o u = by (lies_in_heap addr n)
    where
      dropped : (k : ℕ) → DoneSame needed (dropped_block addr n (record σ { steps = k })) (dropped_block addr n (record (other m o σ) { steps = k })) σ m o u
      dropped k = λ g. record {
        cells = cleared addr n m;
        output = o;
        is = refl;
        alike = after_touch (touch.Drop addr n) u (record { at = block_dropped addr n σ.cells }) (record { at = block_dropped addr n m }) g;
        bytes = λ e. e;
      }

      by : (b : Bool) → DoneSame needed (if b then with_steps n σ (dropped_block addr n) else Stops (Fault kind.Undefined) [] σ)
          (if b then with_steps n (other m o σ) (dropped_block addr n) else Stops (Fault kind.Undefined) [] (other m o σ)) σ m o u
      by true = stepped n σ m o u (dropped_block addr n) dropped
      by false = λ g. record { cells = m; output = o; is = refl; alike = g; bytes = λ e. e }

  -- each act does the same in both
  pub act_same : (act : Act) (σ : State) (m : Map) (o : List ℕ) (u : List Piece) → DoneSame needed (perform act σ) (perform act (other m o σ)) σ m o u
  act_same (Spend n) σ m o u = stepped n σ m o u (λ τ. Went tt [] τ)
      (λ k g. record { cells = m; output = o; is = refl; alike = g; bytes = λ e. e })
  act_same (ReadCell addr) σ m o u = celled addr σ m o u (λ τ. read_as addr (get τ.cells addr) τ)
      (λ k. read_is addr (get σ.cells addr) (record σ { steps = k }) m o u refl)
  act_same (HasCell addr) σ m o u = celled addr σ m o u (λ τ. Went (is_some (get τ.cells addr)) (touch.Has addr (is_some (get τ.cells addr)) ∷ []) τ)
      (λ k g. record {
        cells = m;
        output = o;
        is = ap (λ b. Went b (touch.Has addr b ∷ []) (record (other m o σ) { steps = k })) (sym (g.there addr));
        alike = after_has addr (is_some (get σ.cells addr)) u σ.cells m g;
        bytes = λ e. e;
      })
  act_same (WriteCell addr v) σ m o u = celled addr σ m o u
      (λ τ. if nat_lt addr stack_end then put_value addr v τ else put_asked (is_some (get τ.cells addr)) addr v τ)
      (λ k. write_same addr v (record σ { steps = k }) m o u)
  act_same (TakeIf wanted) σ m o u = stepped 1 σ m o u (look_item wanted) (λ k. look_same wanted (record σ { steps = k }) m o u)
  act_same (GiveByte byte) σ m o u = stepped 1 σ m o u (λ τ. Went tt (touch.Give byte ∷ []) (record τ { output = τ.output ++ byte ∷ [] }))
      (λ k g. record {
        cells = m;
        output = o ++ byte ∷ [];
        is = refl;
        alike = after_give byte u σ.cells m g;
        bytes = λ e. ap (λ l. l ++ byte ∷ []) e;
      })
  act_same (MakeBlock cells of') σ m o u = make_same (block_cells cells) of' σ m o u
  act_same (DropBlock addr cells) σ m o u = drop_same addr (block_cells cells) σ m o u
