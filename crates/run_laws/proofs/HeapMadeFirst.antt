-- The heap is met only after a variable was made there, and the first of them begins where the heap does.
use Rattle.std.proofs.Common.{if◌then◌else◌, ◌&&◌, ◌++◌, ◌+◌, ◌-◌, ◌<◌, ◌||◌, ◌∙◌, ◌∷◌, ◌≡◌, ◌≤◌, ◌⊎◌, [], ℕ, Bool, List, None, Option, Some, ap, arith, false}
use Rattle.std.proofs.Common.{inl, inr, is_some, nat_le, nat_lt, refl, slice_get, subst, sym, true}
use Rattle.std.{proofs.lemmas.Bool.Decides.nat_tests, specs.FinMap.get, specs.List.list_any}
use Rattle.cell_value.specs.Effects.{heap_end, heap_start, made_by, made_of}
use Rattle.cell_value.specs.declared.{entries.Touch.Touch, values.Value.Value, ways_out.Kind.Kind, ways_out.Which.TheVariants.Heap}
use Rattle.core_program.proofs.{ActionsMeant.no, LawsOfRuns.begins_sound, OutcomesCompose.none_some, OutcomesCompose.some_same, Ways.Ran, Ways.RanCall}
use Rattle.core_program.proofs.{Ways.RanFrame, Ways.run_gives, WholeParts.or_left, WholeParts.or_right}
use Rattle.core_program.proofs.ActsLeave.{Leaves, MayEnter, limits_hold, made_append}
use Rattle.core_program.proofs.RunsLeave.{act_left, call_leaves, ran_leaves, sound_framed, sound_opened}
use Rattle.core_program.proofs.Ways as ways
use Rattle.core_program.specs.{Blocks.block_cells, Passed.cells_entered, ProgramRows.ProgramRows, Tree.ActTree, Tree.Halt}
use Rattle.core_program.specs.Acts.{Act, ActResult, Answer, DropBlock, Fault, GiveByte, HasCell, Limited, MakeBlock, OutOfSteps, ReadCell, Spend, Stops, TakeIf}
use Rattle.core_program.specs.Acts.{Went, WriteCell, after_touches, drop_block, dropped_block, look_item, made_block, make_block, on_cell, perform, put_asked}
use Rattle.core_program.specs.Acts.{put_value, read_as, spent, take_item, take_looked, with_steps}
use Rattle.core_program.specs.Run.{Call, Result, block, depth_enough, run, start}
use Rattle.core_program.specs.State.{IsSound, State, is_in_reach, stack_end}
use Rattle.run_laws.proofs.{ActionsMiss.found_by, PartsMiss.CarefulTree, PartsMiss.TreeHeeds, PartsMiss.part_careful, PartsMiss.whole_careful}
use Rattle.run_laws.specs.HeapLaws.{makes_variable, uses_heap}

-- a touch that makes a variable where the heap begins
abbrev pub IsFirst : Touch → Type 0
IsFirst (Touch.Make address cells of') = address ≡ heap_start
IsFirst t = ⊥

-- a touch that neither makes a variable nor uses the heap
abbrev pub IsIdle : Touch → Type 0
IsIdle t = (makes_variable t ≡ false) × (uses_heap t ≡ false)

abbrev pub AllIdle : List Touch → Type 0
AllIdle [] = Unit {0}
AllIdle (t ∷ w) = IsIdle t × AllIdle w

-- all are so up to the first that makes a variable
abbrev pub MadeFirst : List Touch → Type 0
MadeFirst [] = Unit {0}
MadeFirst (t ∷ w) = IsFirst t ⊎ (IsIdle t × MadeFirst w)

first_append : (v w : List Touch) → MadeFirst v → (AllIdle v → MadeFirst w) → MadeFirst (v ++ w)
first_append [] w h k = k tt
first_append (t ∷ v) w (inl m) k = inl m
first_append (t ∷ v) w (inr h) k = inr (h.0, first_append v w h.1 (λ n. k (h.0, n)))

first_makes : (t : Touch) → IsFirst t → makes_variable t ≡ true
first_makes (Touch.Make address cells of') m = refl
first_makes t m = absurd m

first_unused : (t : Touch) → IsFirst t → uses_heap t ≡ false
first_unused (Touch.Make address cells of') m = refl
first_unused t m = absurd m

made_before : (before : List Touch) (t : Touch) (after : List Touch) → MadeFirst (before ++ t ∷ after) → uses_heap t ≡ true
    → list_any makes_variable before ≡ true
made_before [] t after (inl m) u = no (sym (first_unused t m) ∙ u)
made_before [] t after (inr h) u = no (sym h.0.1 ∙ u)
made_before (s ∷ before) t after (inl m) u = or_left (makes_variable s) (list_any makes_variable before) (first_makes s m)
made_before (s ∷ before) t after (inr h) u =
    or_right (makes_variable s) (list_any makes_variable before) (made_before before t after h.1 u)

neither : (a b : Bool) → (a || b) ≡ false → (a ≡ false) × (b ≡ false)
neither true b h = no (sym h)
neither false b h = (refl, h)

first_address : (before : List Touch) (address cells of' : ℕ) (after : List Touch) → MadeFirst (before ++ Touch.Make address cells of' ∷ after)
    → list_any makes_variable before ≡ false → address ≡ heap_start
first_address [] address cells of' after (inl m) n = m
first_address [] address cells of' after (inr h) n = no (sym h.0.0)
first_address (s ∷ before) address cells of' after (inl m) n =
    no (sym (neither (makes_variable s) (list_any makes_variable before) n).0 ∙ first_makes s m)
first_address (s ∷ before) address cells of' after (inr h) n =
    first_address before address cells of' after h.1 (neither (makes_variable s) (list_any makes_variable before) n).1

cells_none : (t : Touch) → makes_variable t ≡ false → made_by t ≡ 0
cells_none (Touch.Make address cells of') h = no (sym h)
cells_none t h = refl

made_none : (w : List Touch) → AllIdle w → made_of w ≡ 0
made_none [] h = refl
made_none (t ∷ w) h =
    let e : made_of (t ∷ []) ≡ 0 = ap (λ n. 0 + n) (cells_none t h.0.0) in omega (arith, made_append (t ∷ []) w, e, made_none w h.1)

still : {σ τ : State} {w : List Touch} {n : ℕ} → Leaves σ w n τ → AllIdle w → σ.fresh ≡ stack_end → τ.fresh ≡ stack_end
still {w = w} l h e = omega (arith, l.fresh, made_none w h, e)

abbrev Low : Option ℕ → Type 0
Low found = (a : ℕ) → found ≡ Some a → a < stack_end

low_none : Low None
low_none a e = absurd (none_some e)

low_some : (addr : ℕ) → addr < stack_end → Low (Some addr)
low_some addr h a e = let q : addr ≡ a = some_same e in omega (arith, h, q)

low_use : (addr : ℕ) → addr < stack_end → nat_le heap_start addr ≡ false
low_use addr h = grind (arith, nat_tests)

abbrev DoneFirst : {A : Type 0} → (F : A → Option ℕ) → ActResult A → Type 0
DoneFirst F (Went x w τ) = MadeFirst w × Low (F x)
DoneFirst F (Stops why w τ) = MadeFirst w

steps_first : {A : Type 0} (F : A → Option ℕ) (σ : State) (n : ℕ) (go : State → ActResult A) → ((k : ℕ) → DoneFirst F (go (record σ { steps = k })))
    → DoneFirst F (with_steps n σ go)
steps_first {A} F σ n go h = by (nat_lt σ.steps n)
  where
    by : (b : Bool) → DoneFirst {A = A} F (if b then Stops OutOfSteps [] (spent σ) else go (record σ { steps = σ.steps - n }))
    by true = tt
    by false = h (σ.steps - n)

cell_first : {A : Type 0} (F : A → Option ℕ) (σ : State) (addr : ℕ) (go : State → ActResult A) → ((k : ℕ) → DoneFirst F (go (record σ { steps = k })))
    → DoneFirst F (on_cell addr σ go)
cell_first {A} F σ addr go h = by (is_in_reach σ addr)
  where
    by : (b : Bool) → DoneFirst {A = A} F (if b then with_steps 1 σ go else Stops (Fault Kind.Undefined) [] σ)
    by true = steps_first F σ 1 go h
    by false = tt

item_first : (wanted : ℕ → Bool) (at item : ℕ) (b : Bool) (σ : State)
    → DoneFirst (found_by (TakeIf wanted)) (after_touches (Touch.Look at ∷ []) (take_item b item σ))
item_first wanted at item true σ = by (nat_lt σ.steps 1)
  where
    by : (b : Bool) → DoneFirst (found_by (TakeIf wanted)) (after_touches (Touch.Look at ∷ []) (if b then Stops OutOfSteps [] (spent σ)
        else Went (Some item) (Touch.Take 1 ∷ []) (record σ { steps = σ.steps - 1; place = σ.place + 1 })))
    by true = inr ((refl, refl), tt)
    by false = (inr ((refl, refl), inr ((refl, refl), tt)), low_none)
item_first wanted at item false σ = (inr ((refl, refl), tt), low_none)

look_first : (wanted : ℕ → Bool) (at : ℕ) (o : Option ℕ) (σ : State)
    → DoneFirst (found_by (TakeIf wanted)) (after_touches (Touch.Look at ∷ []) (take_looked wanted o σ))
look_first wanted at None σ = (inr ((refl, refl), tt), low_none)
look_first wanted at (Some item) σ = item_first wanted at item (wanted item) σ

make_first : (cells of' n : ℕ) (σ : State) → σ.fresh ≡ stack_end → DoneFirst (found_by (MakeBlock cells of')) (make_block n of' σ)
make_first cells of' n σ e = by (nat_lt heap_end (σ.fresh + n))
  where
    by : (b : Bool) → DoneFirst {A = ℕ} (found_by (MakeBlock cells of')) (if b then Stops (Limited Heap) [] σ else with_steps n σ (made_block n of'))
    by true = tt
    by false = steps_first (found_by (MakeBlock cells of')) σ n (made_block n of') (λ k. (inl e, low_none))

-- a block that begins in the stack is not dropped
drop_first : (addr cells n : ℕ) (σ : State) → addr < stack_end → DoneFirst (found_by (DropBlock addr cells)) (drop_block addr n σ)
drop_first addr cells n σ l = by (nat_le stack_end addr) refl
  where
    by : (b : Bool) → nat_le stack_end addr ≡ b → DoneFirst (found_by (DropBlock addr cells))
        (if b && nat_le (addr + n) heap_end then with_steps n σ (dropped_block addr n) else Stops (Fault Kind.Undefined) [] σ)
    by true q = absurd (let m : stack_end ≤ addr = grind (arith, nat_tests) in omega (arith, l, m))
    by false q = tt

module _ (σ : State) (s : IsSound σ) (e : σ.fresh ≡ stack_end) where
  -- no cell of the heap is there
  there_low : (addr : ℕ) → is_some (get σ.cells addr) ≡ true → addr < stack_end
  there_low addr h = by (nat_lt addr stack_end) refl
    where
      by : (b : Bool) → nat_lt addr stack_end ≡ b → addr < stack_end
      by true q = grind (arith, nat_tests)
      by false q = let l : stack_end ≤ addr = grind (arith, nat_tests) in no (sym (ap is_some (s.above_heap addr (omega (arith, e, l)))) ∙ h)

  read_first : (addr k : ℕ) (o : Option Value) → get σ.cells addr ≡ o → DoneFirst (found_by (ReadCell addr)) (read_as addr o (record σ { steps = k }))
  read_first addr k (Some v) q = (inr ((refl, low_use addr (there_low addr (ap is_some q))), tt), low_none)
  read_first addr k None q = (inr ((refl, refl), tt), low_none)

  has_first : (addr k : ℕ) (b : Bool) → is_some (get σ.cells addr) ≡ b
      → DoneFirst (found_by (HasCell addr)) (Went b (Touch.Has addr b ∷ []) (record σ { steps = k }))
  has_first addr k true q = (inr ((refl, low_use addr (there_low addr q)), tt), low_some addr (there_low addr q))
  has_first addr k false q = (inr ((refl, refl), tt), low_none)

  write_first : (addr : ℕ) (v : Value) (k : ℕ) (b there : Bool) → nat_lt addr stack_end ≡ b → is_some (get σ.cells addr) ≡ there
      → DoneFirst (found_by (WriteCell addr v)) (if b then put_value addr v (record σ { steps = k }) else put_asked there addr v (record σ { steps = k }))
  write_first addr v k true there q t = (inr ((refl, low_use addr (grind (arith, nat_tests))), tt), low_none)
  write_first addr v k false true q t =
      let l = there_low addr t in absurd (let m : stack_end ≤ addr = grind (arith, nat_tests) in omega (arith, l, m))
  write_first addr v k false false q t = (inr ((refl, refl), tt), low_none)

  act_first : (found : Option ℕ) → Low found → (act : Act) (next : Answer act → ActTree) → TreeHeeds found act next
      → DoneFirst (found_by act) (perform act σ)
  act_first found low (Spend n) next h = steps_first (found_by (Spend n)) σ n (λ τ. Went tt [] τ) (λ k. (tt, low_none))
  act_first found low (ReadCell addr) next h =
      cell_first (found_by (ReadCell addr)) σ addr (λ τ. read_as addr (get σ.cells addr) τ) (λ k. read_first addr k (get σ.cells addr) refl)
  act_first found low (HasCell addr) next h =
      cell_first (found_by (HasCell addr)) σ addr (λ τ. Went (is_some (get σ.cells addr)) (Touch.Has addr (is_some (get σ.cells addr)) ∷ []) τ)
      (λ k. has_first addr k (is_some (get σ.cells addr)) refl)
  act_first found low (WriteCell addr v) next h = cell_first (found_by (WriteCell addr v)) σ addr
      (λ τ. if nat_lt addr stack_end then put_value addr v τ else put_asked (is_some (get τ.cells addr)) addr v τ)
      (λ k. write_first addr v k (nat_lt addr stack_end) (is_some (get σ.cells addr)) refl refl)
  act_first found low (TakeIf wanted) next h = steps_first (found_by (TakeIf wanted)) σ 1 (look_item wanted)
      (λ k. look_first wanted σ.place (slice_get σ.items σ.place) (record σ { steps = k }))
  act_first found low (GiveByte byte) next h = steps_first (found_by (GiveByte byte)) σ 1
      (λ τ. Went tt (Touch.Give byte ∷ []) (record τ { output = τ.output ++ byte ∷ [] })) (λ k. (inr ((refl, refl), tt), low_none))
  act_first found low (MakeBlock cells of') next h = make_first cells of' (block_cells cells) σ e
  act_first found low (DropBlock addr cells) next h = drop_first addr cells (block_cells cells) σ (low addr h)

module _ (p : ProgramRows) where
  mutual
    ran_first : {n : ℕ} {t : ActTree} {σ : State} {r : Result State Call} → Ran p n t σ r → (found : Option ℕ) → CarefulTree found t → Low found
        → IsSound σ → σ.fresh ≡ stack_end → MadeFirst r.log
    ran_first ways.Returned found c l s e = tt
    ran_first ways.Stopped found c l s e = tt
    ran_first (ways.Refused {act = act} {next = next} {σ = σ} {w = w} q) found c l s e =
        first_append w [] (subst (DoneFirst (found_by act)) q (act_first σ s e found l act next c.0)) (λ _. tt)
    ran_first (ways.Acted {act = act} {next = next} {σ = σ} {x = x} {w = w} {r = r} q h) found c l s e =
        let d = subst (DoneFirst (found_by act)) q (act_first σ s e found l act next c.0) in
        let k = act_left act s q in
        first_append w r.log d.0 (λ n. ran_first h (found_by act x) (c.1 x) d.1 k.sound (still k n e))
    ran_first (ways.PartStopped {part = part} h q) found c l s e = ran_first h None (part_careful p part) low_none s e
    ran_first (ways.PartEnded {part = part} {r = y} {out = out} {s = z} h q g) found c l s e =
        let k = (ran_leaves p h s).leaves in
        first_append y.log z.log (ran_first h None (part_careful p part) low_none s e) (λ n. ran_first g None (c out) low_none k.sound (still k n e))
    ran_first (ways.AtLimit q) found c l s e = tt
    ran_first (ways.CallStopped {e = i} {σ = σ} q h w) found c l s e = call_first h s (limits_hold σ (cells_entered i) q) e
    ran_first (ways.CallEnded {e = i} {σ = σ} {y = y} {out = out} {s = z} q h w g) found c l s e =
        let m = limits_hold σ (cells_entered i) q in
        let k = (call_leaves p h s m).leaves in
        first_append y.log z.log (call_first h s m e) (λ n. ran_first g None (c out) low_none k.sound (still k n e))
    ran_first (ways.NotBegun {σ = σ} {w = w} q) found c l s e =
        first_append w [] (subst (DoneFirst (found_by (Spend 1))) q (act_first σ s e None low_none (Spend 1) (λ _. Halt 0 OutOfSteps) tt)) (λ _. tt)
    ran_first (ways.Began {σ = σ} {w = w} {r = r} q h) found c l s e =
        let d = subst (DoneFirst (found_by (Spend 1))) q (act_first σ s e None low_none (Spend 1) (λ _. Halt 0 OutOfSteps) tt) in
        let k = act_left (Spend 1) s q in
        first_append w r.log d.0 (λ n. ran_first h None c low_none k.sound (still k n e))

    frame_first : {n f : ℕ} {args : List Value} {σ : State} {r : Result State Call} → RanFrame p n f args σ r → IsSound σ → σ.fresh ≡ stack_end
        → MadeFirst r.log
    frame_first (ways.NoRoom t u) s e = tt
    frame_first (ways.NoSteps t u v) s e = tt
    frame_first (ways.Worked {f = f} {args = args} {σ = σ} {q = q} t u v h) s e =
        ran_first h None (whole_careful p f σ.top q) low_none (sound_framed q args σ s (grind (arith, nat_tests))) e

    call_first : {n f : ℕ} {args : List Value} {σ : State} {r : Result State Call} → RanCall p n f args σ r → IsSound σ → MayEnter σ
        → σ.fresh ≡ stack_end → MadeFirst r.log
    call_first (ways.Closed {σ = σ} c h) s m e = frame_first h (sound_opened σ s m) e

pub run_first : (p : ProgramRows) (input : List ℕ) (budget : ℕ) (r : Result State Call) → run p input budget ≡ Some r → MadeFirst r.log
run_first p input budget r e =
    ran_first p (run_gives p (depth_enough p budget) block (start input budget) r e) None (λ out. tt) low_none (begins_sound input budget) refl

pub used_after_made : (p : ProgramRows) (input : List ℕ) (budget : ℕ) (r : Result State Call) → run p input budget ≡ Some r → (before : List Touch)
    (t : Touch) (after : List Touch)
    → r.log ≡ before ++ t ∷ after → uses_heap t ≡ true → list_any makes_variable before ≡ true
used_after_made p input budget r e before t after q = made_before before t after (subst MadeFirst q (run_first p input budget r e))

pub first_made_there : (p : ProgramRows) (input : List ℕ) (budget : ℕ) (r : Result State Call) → run p input budget ≡ Some r → (before : List Touch)
    (address cells of' : ℕ) (after : List Touch)
    → r.log ≡ before ++ Touch.Make address cells of' ∷ after → list_any makes_variable before ≡ false → address ≡ heap_start
first_made_there p input budget r e before address cells of' after q =
    first_address before address cells of' after (subst MadeFirst q (run_first p input budget r e))
