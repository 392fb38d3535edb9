-- In each run calls that miss a cell end there; and the heap is met only after a variable was made there.
use Rattle.std.proofs.Common.{if◌then◌else◌, ◌++◌, ◌+◌, ◌-◌, ◌∙◌, ◌∷◌, ◌≡◌, ◌⊎◌, [], ℕ, Bool, List, None, Option, Some, ap, drop, false, inl, inr, is_some}
use Rattle.std.proofs.Common.{nat_lt, refl, slice_get, subst, sym, true}
use Rattle.std.specs.FinMap.{get}
use Rattle.cell_value.specs.Effects.{heap_end}
use Rattle.cell_value.specs.declared.{entries.Touch.Touch, values.Value.Value, ways_out.Kind.Kind, ways_out.Which.TheVariants.Heap}
use Rattle.core_program.proofs.{ActionsMeant.no, LawsOfRuns.made, RunsRecord.MadeBy, Ways.Ran, Ways.RanCall, Ways.RanFrame}
use Rattle.core_program.proofs.Ways as ways
use Rattle.core_program.specs.{Blocks.block_cells, Blocks.lies_in_heap, ProgramRows.ProgramRows, RunLaws.calls_in}
use Rattle.core_program.specs.Acts.{Act, ActResult, Answer, DropBlock, Fault, GiveByte, HasCell, Limited, MakeBlock, OutOfSteps, ReadCell, Spend, Stops, TakeIf}
use Rattle.core_program.specs.Acts.{Trouble, Went, WriteCell, after_touches, drop_block, dropped_block, look_item, made_block, make_block, on_cell, perform}
use Rattle.core_program.specs.Acts.{put_asked, put_value, read_as, spent, take_item, take_looked, with_steps}
use Rattle.core_program.specs.Run.{Call, End, Ended, Halted, Result, run, way_out}
use Rattle.core_program.specs.State.{State, is_in_reach, stack_end}
use Rattle.core_program.specs.Tree.{ActTree, Halt, Jump, Out, way_of}
use Rattle.run_laws.proofs.ActionsMiss.{found_by}
use Rattle.run_laws.proofs.PartsMiss.{CarefulTree, IsStop, TreeHeeds, part_careful, whole_careful}
use Rattle.run_laws.specs.HeapLaws.{is_disposed, is_miss}

-- ---- misses in a log

abbrev NoMisses : List Touch → Type 0
NoMisses [] = Unit {0}
NoMisses (t ∷ w) = (is_miss t ≡ false) × NoMisses w

abbrev IsDisposed : End → Type 0
IsDisposed e = is_disposed (way_out e) ≡ true

-- a miss is the last touch, and the end is that fault
abbrev pub LastMiss : End → List Touch → Type 0
LastMiss e [] = Unit {0}
LastMiss e (t ∷ w) = (is_miss t ≡ true → (w ≡ []) × IsDisposed e) × LastMiss e w

last_append : (e : End) (v w : List Touch) → NoMisses v → LastMiss e w → LastMiss e (v ++ w)
last_append e [] w h k = k
last_append e (t ∷ v) w h k = (λ m. no (sym h.0 ∙ m), last_append e v w h.1 k)

none_missed : (e : End) (w : List Touch) → (IsDisposed e → ⊥) → LastMiss e w → NoMisses w
none_missed e [] k h = tt
none_missed e (t ∷ w) k h = (by (is_miss t) refl, none_missed e w k h.1)
  where
    by : (b : Bool) → is_miss t ≡ b → is_miss t ≡ false
    by true q = absurd (k (h.0 q).1)
    by false q = q

pub last_split : (e : End) (before : List Touch) (t : Touch) (after : List Touch) → LastMiss e (before ++ t ∷ after) → is_miss t ≡ true
    → (after ≡ []) × (is_disposed (way_out e) ≡ true)
last_split e [] t after h m = h.0 m
last_split e (s ∷ before) t after h m = last_split e before t after h.1 m

ended_not : (out : Out) → IsDisposed (Ended out) → ⊥
ended_not (Jump label base) h = no h
ended_not out h = no h

gone_on : (e : End) (out : Out) → e ≡ Ended out → IsDisposed e → ⊥
gone_on e out q h = ended_not out (subst IsDisposed q h)

-- ---- what acts miss

abbrev MissedBy : (act : Act) → Answer act → Type 0
MissedBy (ReadCell addr) None = Unit {0}
MissedBy (HasCell addr) false = Unit {0}
MissedBy (WriteCell addr v) false = Unit {0}
MissedBy act x = ⊥

abbrev OneMiss : List Touch → Type 0
OneMiss w = (a : ℕ) × (w ≡ Touch.Has a false ∷ [])

abbrev DoneMiss : {A : Type 0} → (Missed : A → Type 0) → ActResult A → Type 0
DoneMiss M (Went x w τ) = NoMisses w ⊎ (OneMiss w × M x)
DoneMiss M (Stops why w τ) = NoMisses w

steps_miss : {A : Type 0} (M : A → Type 0) (σ : State) (n : ℕ) (go : State → ActResult A) → ((k : ℕ) → DoneMiss M (go (record σ { steps = k })))
    → DoneMiss M (with_steps n σ go)
steps_miss {A} M σ n go h = by (nat_lt σ.steps n)
  where
    by : (b : Bool) → DoneMiss {A = A} M (if b then Stops OutOfSteps [] (spent σ) else go (record σ { steps = σ.steps - n }))
    by true = tt
    by false = h (σ.steps - n)

cell_misses : {A : Type 0} (M : A → Type 0) (σ : State) (addr : ℕ) (go : State → ActResult A) → ((k : ℕ) → DoneMiss M (go (record σ { steps = k })))
    → DoneMiss M (on_cell addr σ go)
cell_misses {A} M σ addr go h = by (is_in_reach σ addr)
  where
    by : (b : Bool) → DoneMiss {A = A} M (if b then with_steps 1 σ go else Stops (Fault Kind.Undefined) [] σ)
    by true = steps_miss M σ 1 go h
    by false = tt

read_misses : (addr : ℕ) (o : Option Value) (σ : State) → DoneMiss (MissedBy (ReadCell addr)) (read_as addr o σ)
read_misses addr (Some v) σ = inl (refl, tt)
read_misses addr None σ = inr ((addr, refl), tt)

has_misses : (addr : ℕ) (b : Bool) (σ : State) → DoneMiss (MissedBy (HasCell addr)) (Went b (Touch.Has addr b ∷ []) σ)
has_misses addr true σ = inl (refl, tt)
has_misses addr false σ = inr ((addr, refl), tt)

put_misses : (addr : ℕ) (v : Value) (there : Bool) (σ : State) → DoneMiss (MissedBy (WriteCell addr v)) (put_asked there addr v σ)
put_misses addr v true σ = by (nat_lt σ.steps 1)
  where
    by : (b : Bool) → DoneMiss (MissedBy (WriteCell addr v)) (after_touches (Touch.Has addr true ∷ [])
        (if b then Stops OutOfSteps [] (spent σ) else put_value addr v (record σ { steps = σ.steps - 1 })))
    by true = (refl, tt)
    by false = inl (refl, (refl, tt))
put_misses addr v false σ = inr ((addr, refl), tt)

write_misses : (addr : ℕ) (v : Value) (b there : Bool) (σ : State)
    → DoneMiss (MissedBy (WriteCell addr v)) (if b then put_value addr v σ else put_asked there addr v σ)
write_misses addr v true there σ = inl (refl, tt)
write_misses addr v false there σ = put_misses addr v there σ

item_misses : (wanted : ℕ → Bool) (at item : ℕ) (b : Bool) (σ : State)
    → DoneMiss (MissedBy (TakeIf wanted)) (after_touches (Touch.Look at ∷ []) (take_item b item σ))
item_misses wanted at item true σ = by (nat_lt σ.steps 1)
  where
    by : (b : Bool) → DoneMiss (MissedBy (TakeIf wanted)) (after_touches (Touch.Look at ∷ []) (if b then Stops OutOfSteps [] (spent σ)
        else Went (Some item) (Touch.Take 1 ∷ []) (record σ { steps = σ.steps - 1; place = σ.place + 1 })))
    by true = (refl, tt)
    by false = inl (refl, (refl, tt))
item_misses wanted at item false σ = inl (refl, tt)

look_misses : (wanted : ℕ → Bool) (at : ℕ) (o : Option ℕ) (σ : State)
    → DoneMiss (MissedBy (TakeIf wanted)) (after_touches (Touch.Look at ∷ []) (take_looked wanted o σ))
look_misses wanted at None σ = inl (refl, tt)
look_misses wanted at (Some item) σ = item_misses wanted at item (wanted item) σ

make_misses : (cells of' n : ℕ) (σ : State) → DoneMiss (MissedBy (MakeBlock cells of')) (make_block n of' σ)
make_misses cells of' n σ = by (nat_lt heap_end (σ.fresh + n))
  where
    by : (b : Bool) → DoneMiss {A = ℕ} (MissedBy (MakeBlock cells of')) (if b then Stops (Limited Heap) [] σ else with_steps n σ (made_block n of'))
    by true = tt
    by false = steps_miss (MissedBy (MakeBlock cells of')) σ n (made_block n of') (λ k. inl (refl, tt))

drop_misses : (addr cells n : ℕ) (σ : State) → DoneMiss (MissedBy (DropBlock addr cells)) (drop_block addr n σ)
drop_misses addr cells n σ = by (lies_in_heap addr n)
  where
    by : (b : Bool) → DoneMiss (MissedBy (DropBlock addr cells)) (if b then with_steps n σ (dropped_block addr n) else Stops (Fault Kind.Undefined) [] σ)
    by true = steps_miss (MissedBy (DropBlock addr cells)) σ n (dropped_block addr n) (λ k. inl (refl, tt))
    by false = tt

act_misses : (act : Act) (σ : State) → DoneMiss (MissedBy act) (perform act σ)
act_misses (Spend n) σ = steps_miss (MissedBy (Spend n)) σ n (λ τ. Went tt [] τ) (λ k. inl tt)
act_misses (ReadCell addr) σ =
    cell_misses (MissedBy (ReadCell addr)) σ addr (λ τ. read_as addr (get σ.cells addr) τ) (λ k. read_misses addr (get σ.cells addr) (record σ { steps = k }))
act_misses (HasCell addr) σ =
    cell_misses (MissedBy (HasCell addr)) σ addr (λ τ. Went (is_some (get σ.cells addr)) (Touch.Has addr (is_some (get σ.cells addr)) ∷ []) τ)
    (λ k. has_misses addr (is_some (get σ.cells addr)) (record σ { steps = k }))
act_misses (WriteCell addr v) σ = cell_misses (MissedBy (WriteCell addr v)) σ addr
    (λ τ. if nat_lt addr stack_end then put_value addr v τ else put_asked (is_some (get τ.cells addr)) addr v τ)
    (λ k. write_misses addr v (nat_lt addr stack_end) (is_some (get σ.cells addr)) (record σ { steps = k }))
act_misses (TakeIf wanted) σ = steps_miss (MissedBy (TakeIf wanted)) σ 1 (look_item wanted)
    (λ k. look_misses wanted σ.place (slice_get σ.items σ.place) (record σ { steps = k }))
act_misses (GiveByte byte) σ = steps_miss (MissedBy (GiveByte byte)) σ 1 (λ τ. Went tt (Touch.Give byte ∷ []) (record τ { output = τ.output ++ byte ∷ [] }))
    (λ k. inl (refl, tt))
act_misses (MakeBlock cells of') σ = make_misses cells of' (block_cells cells) σ
act_misses (DropBlock addr cells) σ = drop_misses addr cells (block_cells cells) σ

refused_none : (act : Act) (σ : State) {τ : State} {why : Trouble} {w : List Touch} → perform act σ ≡ Stops why w τ → NoMisses w
refused_none act σ q = subst (DoneMiss (MissedBy act)) q (act_misses act σ)

went_none : (n : ℕ) (σ : State) {τ : State} {w : List Touch} → perform (Spend n) σ ≡ Went tt w τ → NoMisses w
went_none n σ q = elim (subst (DoneMiss (MissedBy (Spend n))) q (act_misses (Spend n) σ)) [
  | inl h ↦ h
  | inr m ↦ absurd m.1
]

-- ---- runs that miss a cell

stopped : (line : ℕ) (why : Trouble) → IsStop (Halt line why) → IsDisposed (Halted (way_of line why))
stopped line (Fault Kind.Disposed) h = refl
stopped line why h = absurd h

stop_ran : {p : ProgramRows} {n : ℕ} {t : ActTree} {σ : State} {r : Result State Call} → Ran p n t σ r → IsStop t → (r.log ≡ []) × IsDisposed r.end
stop_ran (ways.Stopped {line = line} {why = why}) h = (refl, stopped line why h)
stop_ran ways.Returned h = absurd h
stop_ran (ways.Refused q) h = absurd h
stop_ran (ways.Acted q g) h = absurd h
stop_ran (ways.PartStopped g e) h = absurd h
stop_ran (ways.PartEnded g e k) h = absurd h
stop_ran (ways.AtLimit q) h = absurd h
stop_ran (ways.CallStopped q g e) h = absurd h
stop_ran (ways.CallEnded q g e k) h = absurd h
stop_ran (ways.NotBegun q) h = absurd h
stop_ran (ways.Began q g) h = absurd h

stops_there : (found : Option ℕ) (act : Act) (next : Answer act → ActTree) (x : Answer act) → TreeHeeds found act next → MissedBy act x → IsStop (next x)
stops_there found (ReadCell addr) next None h m = h
stops_there found (HasCell addr) next false h m = h
stops_there found (WriteCell addr v) next false h m = h
stops_there found act next x h m = absurd m

missed_last : (e : End) (v w : List Touch) → OneMiss v → w ≡ [] → IsDisposed e → LastMiss e (v ++ w)
missed_last e v w m n d =
    subst (λ v. LastMiss e (v ++ w)) (sym m.1) (subst (λ w. LastMiss e (Touch.Has m.0 false ∷ w)) (sym n) (λ _. (refl, d), tt))

module _ (p : ProgramRows) where
  acted_misses : (found : Option ℕ) (act : Act) (next : Answer act → ActTree) {n : ℕ} (x : Answer act) (w : List Touch) (τ : State) (r : Result State Call)
      → TreeHeeds found act next → Ran p n (next x) τ r → LastMiss r.end r.log → DoneMiss (MissedBy act) (Went x w τ) → LastMiss r.end (w ++ r.log)
  acted_misses found act next x w τ r c h l (inl k) = last_append r.end w r.log k l
  acted_misses found act next x w τ r c h l (inr m) =
      let z = stop_ran h (stops_there found act next x c m.1) in
      missed_last r.end w r.log m.0 z.0 z.1

  mutual
    ran_misses : {n : ℕ} {t : ActTree} {σ : State} {r : Result State Call} → Ran p n t σ r → (found : Option ℕ) → CarefulTree found t
        → LastMiss r.end r.log
    ran_misses ways.Returned found c = tt
    ran_misses ways.Stopped found c = tt
    ran_misses (ways.Refused {line = line} {act = act} {σ = σ} {why = why} {w = w} q) found c =
        last_append (Halted (way_of line why)) w [] (refused_none act σ q) tt
    ran_misses (ways.Acted {act = act} {next = next} {σ = σ} {x = x} {w = w} {τ = τ} {r = r} q h) found c =
        acted_misses found act next x w τ r c.0 h (ran_misses h (found_by act x) (c.1 x)) (subst (DoneMiss (MissedBy act)) q (act_misses act σ))
    ran_misses (ways.PartStopped {part = part} h e) found c = ran_misses h None (part_careful p part)
    ran_misses (ways.PartEnded {part = part} {r = y} {out = out} {s = z} h e g) found c =
        last_append z.end y.log z.log (none_missed y.end y.log (gone_on y.end out e) (ran_misses h None (part_careful p part))) (ran_misses g None (c out))
    ran_misses (ways.AtLimit q) found c = tt
    ran_misses (ways.CallStopped q h e) found c = call_misses h
    ran_misses (ways.CallEnded {y = y} {out = out} {s = z} q h e g) found c =
        last_append z.end y.log z.log (none_missed y.end y.log (gone_on y.end out e) (call_misses h)) (ran_misses g None (c out))
    ran_misses (ways.NotBegun {line = line} {σ = σ} {why = why} {w = w} q) found c =
        last_append (Halted (way_of line why)) w [] (refused_none (Spend 1) σ q) tt
    ran_misses (ways.Began {σ = σ} {w = w} {r = r} q h) found c = last_append r.end w r.log (went_none 1 σ q) (ran_misses h None c)

    frame_misses : {n f : ℕ} {args : List Value} {σ : State} {r : Result State Call} → RanFrame p n f args σ r → LastMiss r.end r.log
    frame_misses (ways.NoRoom e t) = tt
    frame_misses (ways.NoSteps e t u) = tt
    frame_misses (ways.Worked {f = f} {σ = σ} {q = q} e t u h) = ran_misses h None (whole_careful p f σ.top q)

    pub call_misses : {n f : ℕ} {args : List Value} {σ : State} {r : Result State Call} → RanCall p n f args σ r → LastMiss r.end r.log
    call_misses (ways.Closed c h) = frame_misses h

pub misses_end : (p : ProgramRows) (input : List ℕ) (budget : ℕ) (r : Result State Call) → run p input budget ≡ Some r → (number : ℕ) (c : Call)
    → slice_get (calls_in r) number ≡ Some c → (before : List Touch) (t : Touch) (after : List Touch) → c.log ≡ before ++ t ∷ after → is_miss t ≡ true
    → (after ≡ []) × (is_disposed c.way ≡ true)
misses_end p input budget r e number c h before t after q m =
    let b : MadeBy p c (drop (number + 1) (calls_in r)) = made p input budget r e number c h in
    let log : b.result.log ≡ before ++ t ∷ after = ap (λ (d : Call). d.log) b.record' ∙ q in
    let way : way_out b.result.end ≡ c.way = ap (λ (d : Call). d.way) b.record' in
    let s = last_split b.result.end before t after (subst (LastMiss b.result.end) log (call_misses p b.ran)) m in
    (s.0, subst (λ w. is_disposed w ≡ true) way s.1)
