-- In each run all pointers lead to what it made.
use Rattle.std.proofs.Common.{if◌then◌else◌, ◌++◌, ◌+◌, ◌-◌, ◌<◌, ◌∙◌, ◌∷◌, ◌≡◌, ◌≤◌, [], ℕ, All, Bool, List, None, Option, Some, arith, drop, false, inl, inr}
use Rattle.std.proofs.Common.{is_some, max, nat_lt, refl, replicate, slice_get, subst, suc, sym, take, true, zero}
use Rattle.std.proofs.lemmas.{Bool.Decides.eqb_tells, Bool.Decides.nat_tests, List.Elements.All-cons, List.Elements.All-nil}
use Rattle.std.specs.FinMap.{FinMap, get, get-empty, insert, remove}
use Rattle.std.specs.Ordering.{nat_cmp}
use Rattle.cell_value.specs.Effects.{heap_end}
use Rattle.cell_value.specs.declared.{entries.Touch.Touch, values.Value.Value, ways_out.Kind.Kind, ways_out.Which.TheVariants.Heap}
use Rattle.core_program.proofs.{Events.events_append, Events.unmarked, LawsOfRuns.begins_sound, OutcomesCompose.none_some, OutcomesCompose.some_same}
use Rattle.core_program.proofs.ActsLeave.{Leaves, MayEnter, limits_hold}
use Rattle.core_program.proofs.Cells.{got_other, got_same, removed_other, removed_same}
use Rattle.core_program.proofs.RunsLeave.{act_left, call_leaves, ran_leaves, sound_framed, sound_opened}
use Rattle.core_program.proofs.Ways.{Ran, RanCall, RanFrame, front, of_call, run_gives}
use Rattle.core_program.proofs.Ways as ways
use Rattle.core_program.specs.{Passed.args_at, Passed.cells_entered, ProgramRows.ProgramRows, RunLaws.calls_in, State.IsSound, State.State, State.is_in_reach}
use Rattle.core_program.specs.{State.stack_end, Tree.ActTree, Tree.Out, Tree.Scalar, declared.program.Routine.Routine}
use Rattle.core_program.specs.Acts.{Act, ActResult, DropBlock, Fault, GiveByte, HasCell, Limited, MakeBlock, OutOfSteps, ReadCell, Spend, Stops, TakeIf, Went}
use Rattle.core_program.specs.Acts.{WriteCell, after_touches, drop_block, dropped_block, look_item, made_block, make_block, on_cell, perform, put_asked, put_if}
use Rattle.core_program.specs.Acts.{put_value, read_as, spent, take_item, take_looked, with_steps}
use Rattle.core_program.specs.Blocks.{block_cells, cleared, filled, lies_in_heap}
use Rattle.core_program.specs.Run.{Call, End, Ended, Halted, Marked, Result, block, depth_enough, frame_cells, frame_size, result_in, run, start}
use Rattle.run_laws.proofs.ActionsKeep.{ActLed, AllLed, AnswerLed, all_both, all_undefined, led_on}
use Rattle.run_laws.proofs.PartsKeep.{KeptTree, OutLed, args_led, part_kept, whole_kept}
use Rattle.run_laws.specs.PointerLaws.{KeepsPointers, LeadsToMade}

-- ---- cells

abbrev Map : Type 0
Map = FinMap nat_cmp Value

abbrev AllCells : ℕ → Map → Type 0
AllCells n m = (a : ℕ) (v : Value) → get m a ≡ Some v → LeadsToMade n v

cells_on : (n k : ℕ) → n ≤ k → (m : Map) → AllCells n m → AllCells k m
cells_on n k l m h a v e = led_on n k l v (h a v e)

inserted : (n : ℕ) (m : Map) (addr : ℕ) (w : Value) → AllCells n m → LeadsToMade n w → AllCells n (insert m addr w)
inserted n m addr w h k a v e = elim (eqb_tells a addr) [
  | inl q ↦ subst (LeadsToMade n) (some_same (sym (got_same m addr w a q.1) ∙ e)) k
  | inr q ↦ h a v (sym (got_other m addr w a q.1) ∙ e)
]

removed : (n : ℕ) (m : Map) (addr : ℕ) → AllCells n m → AllCells n (remove m addr)
removed n m addr h a v e = elim (eqb_tells a addr) [
  | inl q ↦ absurd (none_some (sym (removed_same m addr a q.1) ∙ e))
  | inr q ↦ h a v (sym (removed_other m addr a q.1) ∙ e)
]

filled_all : (n first : ℕ) (vs : List Value) (m : Map) → AllCells n m → AllLed n vs → AllCells n (filled first vs m)
filled_all n first [] m h k = h
filled_all n first (v ∷ vs) m h k = filled_all n (first + 1) vs (insert m first v) (inserted n m first v h k.0) k.1

cleared_all : (n first k : ℕ) (m : Map) → AllCells n m → AllCells n (cleared first k m)
cleared_all n first zero m h = h
cleared_all n first (suc k) m h = cleared_all n (first + 1) k (remove m first) (removed n m first h)

taken : (n k : ℕ) (vs : List Value) → AllLed n vs → AllLed n (take k vs)
taken n zero vs h = tt
taken n (suc k) [] h = tt
taken n (suc k) (v ∷ vs) h = (h.0, taken n k vs h.1)

left : (n k : ℕ) (vs : List Value) → AllLed n vs → AllLed n (drop k vs)
left n zero vs h = h
left n (suc k) [] h = tt
left n (suc k) (v ∷ vs) h = left n k vs h.1

frame_led : (n : ℕ) (q : Routine) (args : List Value) → AllLed n args → AllLed n (frame_cells q args)
frame_led n q args h = all_both n (take q.cells (take q.parameters args ++ replicate q.cells Value.Undefined)) (drop q.parameters args)
    (taken n q.cells (take q.parameters args ++ replicate q.cells Value.Undefined)
    (all_both n (take q.parameters args) (replicate q.cells Value.Undefined) (taken n q.parameters args h) (all_undefined n q.cells)))
    (left n q.parameters args h)

-- ---- acts

-- what an act leaves that was done: its cells, and its answer
abbrev DoneKept : {A : Type 0} → (F : ℕ → A → Type 0) → ActResult A → Type 0
DoneKept F (Went x w τ) = AllCells τ.fresh τ.cells × F τ.fresh x
DoneKept F (Stops why w τ) = AllCells τ.fresh τ.cells

after_kept : {A : Type 0} (F : ℕ → A → Type 0) (w : List Touch) (d : ActResult A) → DoneKept F d → DoneKept F (after_touches w d)
after_kept F w (Went x v τ) h = h
after_kept F w (Stops why v τ) h = h

module _ (σ : State) (h : AllCells σ.fresh σ.cells) where
  steps_kept : {A : Type 0} (F : ℕ → A → Type 0) (n : ℕ) (go : State → ActResult A) → ((k : ℕ) → DoneKept F (go (record σ { steps = k })))
      → DoneKept F (with_steps n σ go)
  steps_kept {A} F n go k = by (nat_lt σ.steps n)
    where
      by : (b : Bool) → DoneKept {A = A} F (if b then Stops OutOfSteps [] (spent σ) else go (record σ { steps = σ.steps - n }))
      by true = h
      by false = k (σ.steps - n)

  cell_kept : {A : Type 0} (F : ℕ → A → Type 0) (addr : ℕ) (go : State → ActResult A) → ((k : ℕ) → DoneKept F (go (record σ { steps = k })))
      → DoneKept F (on_cell addr σ go)
  cell_kept {A} F addr go k = by (is_in_reach σ addr)
    where
      by : (b : Bool) → DoneKept {A = A} F (if b then with_steps 1 σ go else Stops (Fault Kind.Undefined) [] σ)
      by true = steps_kept F 1 go k
      by false = h

  read_kept : (addr k : ℕ) (o : Option Value) → get σ.cells addr ≡ o → DoneKept (λ n x. AnswerLed n (ReadCell addr) x) (read_as addr o (record σ { steps = k }))
  read_kept addr k (Some v) e = (h, h addr v e)
  read_kept addr k None e = (h, tt)

  drop_kept : (addr cells n : ℕ) → DoneKept (λ n x. AnswerLed n (DropBlock addr cells) x) (drop_block addr n σ)
  drop_kept addr cells n = by (lies_in_heap addr n)
    where
      by : (b : Bool) → DoneKept (λ n x. AnswerLed n (DropBlock addr cells) x)
          (if b then with_steps n σ (dropped_block addr n) else Stops (Fault Kind.Undefined) [] σ)
      by true = steps_kept (λ n x. AnswerLed n (DropBlock addr cells) x) n (dropped_block addr n) (λ k. (cleared_all σ.fresh addr n σ.cells h, tt))
      by false = h

  -- a block of at least one cell
  make_kept : IsSound σ → (cells of' n : ℕ) → 0 < n → DoneKept (λ n x. AnswerLed n (MakeBlock cells of') x) (make_block n of' σ)
  make_kept s cells of' n l = by (nat_lt heap_end (σ.fresh + n))
    where
      more : σ.fresh ≤ σ.fresh + n
      more = omega arith

      made : DoneKept (λ n x. AnswerLed n (MakeBlock cells of') x) (with_steps n σ (made_block n of'))
      made = steps_kept (λ n x. AnswerLed n (MakeBlock cells of') x) n (made_block n of') (λ k. (
        filled_all (σ.fresh + n) σ.fresh (replicate n Value.Undefined) σ.cells (cells_on σ.fresh (σ.fresh + n) more σ.cells h)
            (all_undefined (σ.fresh + n) n),
        (s.heap_begins, omega (arith, l)),
      ))

      by : (b : Bool) → DoneKept {A = ℕ} (λ n x. AnswerLed n (MakeBlock cells of') x)
          (if b then Stops (Limited Heap) [] σ else with_steps n σ (made_block n of'))
      by true = h
      by false = made

put_kept : (σ : State) → AllCells σ.fresh σ.cells → (addr : ℕ) (v : Value) → LeadsToMade σ.fresh v
    → DoneKept (λ n x. AnswerLed n (WriteCell addr v) x) (put_value addr v σ)
put_kept σ h addr v l = (inserted σ.fresh σ.cells addr v h l, tt)

put_if_kept : (σ : State) → AllCells σ.fresh σ.cells → (there : Bool) (addr : ℕ) (v : Value) → LeadsToMade σ.fresh v
    → DoneKept (λ n x. AnswerLed n (WriteCell addr v) x) (put_if there addr v σ)
put_if_kept σ h true addr v l =
    steps_kept σ h (λ n x. AnswerLed n (WriteCell addr v) x) 1 (put_value addr v) (λ k. put_kept (record σ { steps = k }) h addr v l)
put_if_kept σ h false addr v l = (h, tt)

write_kept : (σ : State) → AllCells σ.fresh σ.cells → (b there : Bool) (addr : ℕ) (v : Value) → LeadsToMade σ.fresh v
    → DoneKept (λ n x. AnswerLed n (WriteCell addr v) x) (if b then put_value addr v σ else put_asked there addr v σ)
write_kept σ h true there addr v l = put_kept σ h addr v l
write_kept σ h false there addr v l =
    after_kept (λ n x. AnswerLed n (WriteCell addr v) x) (Touch.Has addr there ∷ []) (put_if there addr v σ) (put_if_kept σ h there addr v l)

take_kept : (σ : State) → AllCells σ.fresh σ.cells → (wanted : ℕ → Bool) (b : Bool) (item : ℕ)
    → DoneKept (λ n x. AnswerLed n (TakeIf wanted) x) (take_item b item σ)
take_kept σ h wanted true item = steps_kept σ h (λ n x. AnswerLed n (TakeIf wanted) x) 1
    (λ τ. Went (Some item) (Touch.Take 1 ∷ []) (record τ { place = τ.place + 1 })) (λ k. (h, tt))
take_kept σ h wanted false item = (h, tt)

looked_kept : (σ : State) → AllCells σ.fresh σ.cells → (wanted : ℕ → Bool) (o : Option ℕ)
    → DoneKept (λ n x. AnswerLed n (TakeIf wanted) x) (take_looked wanted o σ)
looked_kept σ h wanted None = (h, tt)
looked_kept σ h wanted (Some item) = take_kept σ h wanted (wanted item) item

act_kept : (act : Act) (σ : State) → IsSound σ → AllCells σ.fresh σ.cells → ActLed σ.fresh act → DoneKept (λ n x. AnswerLed n act x) (perform act σ)
act_kept (Spend n) σ s h l = steps_kept σ h (λ n' x. AnswerLed n' (Spend n) x) n (λ τ. Went tt [] τ) (λ k. (h, tt))
act_kept (ReadCell addr) σ s h l = cell_kept σ h (λ n x. AnswerLed n (ReadCell addr) x) addr (λ τ. read_as addr (get σ.cells addr) τ)
    (λ k. read_kept σ h addr k (get σ.cells addr) refl)
act_kept (HasCell addr) σ s h l = cell_kept σ h (λ n x. AnswerLed n (HasCell addr) x) addr
    (λ τ. Went (is_some (get σ.cells addr)) (Touch.Has addr (is_some (get σ.cells addr)) ∷ []) τ) (λ k. (h, tt))
act_kept (WriteCell addr v) σ s h l = cell_kept σ h (λ n x. AnswerLed n (WriteCell addr v) x) addr
    (λ τ. if nat_lt addr stack_end then put_value addr v τ else put_asked (is_some (get τ.cells addr)) addr v τ)
    (λ k. write_kept (record σ { steps = k }) h (nat_lt addr stack_end) (is_some (get σ.cells addr)) addr v l)
act_kept (TakeIf wanted) σ s h l = steps_kept σ h (λ n x. AnswerLed n (TakeIf wanted) x) 1 (look_item wanted) (λ k.
    after_kept (λ n x. AnswerLed n (TakeIf wanted) x) (Touch.Look σ.place ∷ []) (take_looked wanted (slice_get σ.items σ.place) (record σ { steps = k }))
    (looked_kept (record σ { steps = k }) h wanted (slice_get σ.items σ.place)))
act_kept (GiveByte byte) σ s h l = steps_kept σ h (λ n x. AnswerLed n (GiveByte byte) x) 1
    (λ τ. Went tt (Touch.Give byte ∷ []) (record τ { output = τ.output ++ byte ∷ [] })) (λ k. (h, tt))
act_kept (MakeBlock cells of') σ s h l = make_kept σ h s cells of' (block_cells cells) (let m : 0 < max cells 1 = omega arith in m)
act_kept (DropBlock addr cells) σ s h l = drop_kept σ h addr cells (block_cells cells)

-- ---- runs

abbrev EndLed : ℕ → End → Type 0
EndLed n (Ended out) = OutLed n out
EndLed n (Halted way) = Unit {0}

end_led : (n : ℕ) (e : End) (out : Out) → e ≡ Ended out → EndLed n e → OutLed n out
end_led n e out q h = subst (EndLed n) q h

abbrev EachKeeps : List Call → Type 0
EachKeeps [] = Unit {0}
EachKeeps (c ∷ cs) = KeepsPointers c × EachKeeps cs

each_both : (cs ds : List Call) → EachKeeps cs → EachKeeps ds → EachKeeps (cs ++ ds)
each_both [] ds h k = k
each_both (c ∷ cs) ds h k = (h.0, each_both cs ds h.1 k)

record Keeps (r : Result State Call) : Type 0 where
  cells : AllCells r.after.fresh r.after.cells
  end : EndLed r.after.fresh r.end
  calls : EachKeeps (unmarked r.events)

keeps_front : (w : List Touch) (es : List (Marked Call)) (r : Result State Call) → EachKeeps (unmarked es) → Keeps r → Keeps (front w es r)
keeps_front w es r h k = record {
  cells = k.cells;
  end = k.end;
  calls = subst EachKeeps (sym (events_append _ es r.events)) (each_both (unmarked es) (unmarked r.events) h k.calls);
}

all_args : (n : ℕ) (vs : List Value) → AllLed n vs → All (LeadsToMade n) vs
all_args n [] h = All-nil (LeadsToMade n)
all_args n (v ∷ vs) h = All-cons (LeadsToMade n) v vs h.0 (all_args n vs h.1)

result_led : (n : ℕ) (e : End) → EndLed n e → (v : Value) → result_in e ≡ Some v → LeadsToMade n v
result_led n (Ended (Scalar w)) h v q = subst (LeadsToMade n) (some_same q) h
result_led n e h v q = absurd (none_some q)

keeps_call : (f : ℕ) (args : List Value) (σ : State) (y : Result State Call) → AllCells σ.fresh σ.cells → AllLed σ.fresh args → Keeps y
    → EachKeeps (unmarked (of_call f args σ y).events)
keeps_call f args σ y h l k =
    (record { before = h; args = all_args σ.fresh args l; after = k.cells; result = result_led y.after.fresh y.end k.end }, k.calls)

-- to spend steps changes nothing else
same_fresh : (σ : State) {τ : State} {w : List Touch} → perform (Spend 1) σ ≡ Went tt w τ → σ.fresh ≡ τ.fresh
same_fresh σ q = subst FreshIs q (by (nat_lt σ.steps 1))
  where
    FreshIs : ActResult (Unit {0}) → Type 0
    FreshIs (Went x w τ) = σ.fresh ≡ τ.fresh
    FreshIs (Stops why w τ) = Unit {0}

    by : (b : Bool) → FreshIs (if b then Stops OutOfSteps [] (spent σ) else Went tt [] (record σ { steps = σ.steps - 1 }))
    by true = tt
    by false = refl

grown : {σ τ : State} {w : List Touch} {n : ℕ} → Leaves σ w n τ → σ.fresh ≤ τ.fresh
grown l = omega (arith, l.fresh)

module _ (p : ProgramRows) where
  mutual
    ran_keeps : {n : ℕ} {t : ActTree} {σ : State} {r : Result State Call} → Ran p n t σ r → IsSound σ → AllCells σ.fresh σ.cells → KeptTree σ.fresh t → Keeps r
    ran_keeps ways.Returned s h c = record { cells = h; end = c; calls = tt }
    ran_keeps ways.Stopped s h c = record { cells = h; end = tt; calls = tt }
    ran_keeps (ways.Refused {act = act} {σ = σ} q) s h c =
        record { cells = subst (DoneKept (λ n x. AnswerLed n act x)) q (act_kept act σ s h c.0); end = tt; calls = tt }
    ran_keeps (ways.Acted {act = act} {next = next} {σ = σ} {x = x} {w = w} {τ = τ} {r = r} q g) s h c =
        let l = act_left act s q in
        let d = subst (DoneKept (λ n x. AnswerLed n act x)) q (act_kept act σ s h c.0) in
        keeps_front w [] r tt (ran_keeps g l.sound d.0 (c.1 τ.fresh (grown l) x d.1))
    ran_keeps (ways.PartStopped {part = part} {σ = σ} g e) s h c = ran_keeps g s h (part_kept p σ.fresh part c.0)
    ran_keeps (ways.PartEnded {part = part} {σ = σ} {r = y} {out = out} {s = z} g e k) s h c =
        let l = (ran_leaves p g s).leaves in
        let a = ran_keeps g s h (part_kept p σ.fresh part c.0) in
        keeps_front y.log y.events z a.calls (ran_keeps k l.sound a.cells (c.1 y.after.fresh (grown l) out (end_led y.after.fresh y.end out e a.end)))
    ran_keeps (ways.AtLimit q) s h c = record { cells = h; end = tt; calls = tt }
    ran_keeps (ways.CallStopped {e = e} {σ = σ} {y = y} q g d) s h c =
        let i = args_led σ.fresh e σ.top c.0 in
        let a = call_keeps g s (limits_hold σ (cells_entered e) q) h i in
        record { cells = a.cells; end = a.end; calls = keeps_call e.routine (args_at e σ.top) σ y h i a }
    ran_keeps (ways.CallEnded {e = e} {σ = σ} {y = y} {out = out} {s = z} q g d k) s h c =
        let m = limits_hold σ (cells_entered e) q in
        let l = (call_leaves p g s m).leaves in
        let i = args_led σ.fresh e σ.top c.0 in
        let a = call_keeps g s m h i in
        keeps_front y.log (of_call e.routine (args_at e σ.top) σ y).events z (keeps_call e.routine (args_at e σ.top) σ y h i a)
        (ran_keeps k l.sound a.cells (c.1 y.after.fresh (grown l) out (end_led y.after.fresh y.end out d a.end)))
    ran_keeps (ways.NotBegun {σ = σ} q) s h c =
        record { cells = subst (DoneKept (λ n x. AnswerLed n (Spend 1) x)) q (act_kept (Spend 1) σ s h tt); end = tt; calls = tt }
    ran_keeps (ways.Began {next = next} {σ = σ} {w = w} {τ = τ} {r = r} q g) s h c =
        let l = act_left (Spend 1) s q in
        let d = subst (DoneKept (λ n x. AnswerLed n (Spend 1) x)) q (act_kept (Spend 1) σ s h tt) in
        keeps_front w [] (front [] [] r) tt (keeps_front [] [] r tt (ran_keeps g l.sound d.0
        (subst (λ n. KeptTree n next) (let e : σ.fresh ≡ τ.fresh = same_fresh σ q in e) c)))

    frame_keeps : {n f : ℕ} {args : List Value} {σ : State} {r : Result State Call} → RanFrame p n f args σ r → IsSound σ → AllCells σ.fresh σ.cells
        → AllLed σ.fresh args → Keeps r
    frame_keeps (ways.NoRoom e t) s h l = record { cells = h; end = tt; calls = tt }
    frame_keeps (ways.NoSteps e t u) s h l = record { cells = h; end = tt; calls = tt }
    frame_keeps (ways.Worked {f = f} {args = args} {σ = σ} {q = q} {y = y} e t u g) s h l =
        let a = ran_keeps g (sound_framed q args σ s (grind (arith, nat_tests)))
        (filled_all σ.fresh σ.top (frame_cells q args) σ.cells h (frame_led σ.fresh q args l)) (whole_kept p σ.fresh f σ.top q) in
        record { cells = cleared_all y.after.fresh σ.top (frame_size q args) y.after.cells a.cells; end = a.end; calls = a.calls }

    call_keeps : {n f : ℕ} {args : List Value} {σ : State} {r : Result State Call} → RanCall p n f args σ r → IsSound σ → MayEnter σ → AllCells σ.fresh σ.cells
        → AllLed σ.fresh args → Keeps r
    call_keeps (ways.Closed {σ = σ} c g) s m h l =
        let a = frame_keeps g (sound_opened σ s m) h l in
        record { cells = a.cells; end = a.end; calls = a.calls }

each_at : (cs : List Call) (k : ℕ) (c : Call) → EachKeeps cs → slice_get cs k ≡ Some c → KeepsPointers c
each_at [] k c h e = absurd (none_some e)
each_at (d ∷ cs) zero c h e = subst KeepsPointers (some_same e) h.0
each_at (d ∷ cs) (suc k) c h e = each_at cs k c h.1 e

no_cells : (n : ℕ) → AllCells n (start [] 0).cells
no_cells n a v e = absurd (none_some (sym (get-empty nat_cmp a) ∙ e))

pub pointers_kept : (p : ProgramRows) (input : List ℕ) (budget : ℕ) (r : Result State Call) → run p input budget ≡ Some r → (number : ℕ) (c : Call)
    → slice_get (calls_in r) number ≡ Some c → KeepsPointers c
pointers_kept p input budget r e number c h = each_at (calls_in r) number c
    (ran_keeps p (run_gives p (depth_enough p budget) block (start input budget) r e) (begins_sound input budget) (no_cells stack_end)
    ((tt, (tt, tt)), λ m l out o. o)).calls h
