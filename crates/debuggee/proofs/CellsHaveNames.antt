-- Where tables are laid out, cells have names, but for links, and what was never there.
use Rattle.std.proofs.Common.{if◌then◌else◌, ◌++◌, ◌+◌, ◌-◌, ◌<◌, ◌∙◌, ◌∷◌, ◌≡◌, ◌≤◌, [], ℕ, All, Bool, List, None, Option, Some, ap, arith, drop, false, inl}
use Rattle.std.proofs.Common.{inr, is_some, length, map, refl, slice_range, subst, suc, sym, take, true, zero}
use Rattle.std.proofs.lemmas.{List.drop_at, List.take_at, List.Elements.All-cons, List.Elements.All-nil, Option.get_or_from_slice_get, Option.slice_get_within}
use Rattle.std.specs.List.{cons_option, filter_map, list_any, range_with_len, slice_get}
use Rattle.std.specs.Option.{IsSome, option_map}
use Rattle.cell_value.specs.Effects.{change_at, changes_of, heap_end, heap_start, is_shared, listed, reads_of, seen_at, shared}
use Rattle.cell_value.specs.declared.{entries.Change.Change, entries.Seen.Seen, entries.Touch.Touch, values.Value.Value}
use Rattle.pas_lexer.specs.Lexed.{Lexed}
use Rattle.core_program.proofs.{CallsOfRunsNest.stand_of, LawsOfRuns.made, OutcomesCompose.none_some, OutcomesCompose.some_same, RunsLeave.shared_so}
use Rattle.core_program.specs.{Numbering.StandsAt, Numbering.belows, Numbering.each_from, ProgramRows.ProgramRows, ProgramRows.frame_in, ProgramRows.frame_of}
use Rattle.core_program.specs.{ProgramRows.routine_at, RunLaws.calls_in, State.State, WholeTables.WholeTables, declared.program.Routine.Routine}
use Rattle.core_program.specs.Run.{Marked, Outcome, Result, frame_size, input_items, run}
use Rattle.core_program.specs.Run as meaning
use Rattle.run_laws.proofs.{CopiesBegin.copies_begin, HeapMadeFirst.AllIdle, HeapMadeFirst.run_first, RunsMiss.misses_end}
use Rattle.run_laws.specs.{HeapLaws.makes_variable, LaidOut.LaidOut, ParameterLaws.HasFirstCopy}
use Rattle.call_tree.specs.{Told.part_of, declared.records.Call.Call}
use Rattle.program_run.specs.{History.log_of, History.recording_of, Table.table_row}
use Rattle.cell_names.specs.{Finding.blocks_of, Names.Scene, Names.frame, Names.local_at, Names.root_at, Places.last_at}
use Rattle.question_text.specs.Cards.{Recorded, result_type, scene_of}
use Rattle.debuggee.proofs.{CallsAreNumbered.calls_kept, FramesFilled.HasCopies, FramesFilled.copy_named, FramesFilled.place_named, FramesFollow.IsFramed}
use Rattle.debuggee.proofs.{FramesFollow.frames_of_run, PlacesHaveNames.function_result, ResultsAreOfFunctions.IsFunction, ResultsAreOfFunctions.is_function}
use Rattle.debuggee.proofs.AddressesHaveRoots.{HasRoot, IsLink, NoBlock, Rooted, rooted}
use Rattle.debuggee.proofs.HeapCellsHaveBlocks.{idle_left, idle_log, idle_right, none_made, seen_missed, unchanged}
use Rattle.debuggee.specs.Execution.{Supply, execution_of}
use Rattle.debuggee.specs.LeftOut.{IsLastMiss, IsNamed, Link, Named, NamedAs, OfLastMiss, OfNamed, SeenAs}

-- the run of a program, as its cards tell of it
abbrev pub recorded_of : ProgramRows → (tokens : ℕ) → (input : List ℕ) → (budget : ℕ) → Recorded
recorded_of p tokens input budget = record {
  program = p;
  tokens = tokens;
  calls = (recording_of p (run p input budget)).calls;
  log = log_of (run p input budget);
  items = input_items input;
}

-- ---- lists of cells

-- what holds wherever a function gives something holds of all that is listed
one_holds : {X : Type 0} (P : ℕ × X → Type 0) (a : ℕ) (o : Option X) (xs : List (ℕ × X)) → ((x : X) → o ≡ Some x → P (a, x)) → All P xs
    → All P (cons_option (option_map (λ x. (a, x)) o) xs)
one_holds P a None xs h k = k
one_holds P a (Some x) xs h k = All-cons P (a, x) xs (h x refl) k

each_holds : {X : Type 0} (P : ℕ × X → Type 0) (f : ℕ → Option X) → ((a : ℕ) (x : X) → f a ≡ Some x → P (a, x)) → (n a : ℕ)
    → All P (filter_map (λ q. option_map (λ x. (q, x)) (f q)) (range_with_len a n))
each_holds P f h zero a = All-nil P
each_holds P f h (suc n) a = one_holds P a (f a) _ (h a) (each_holds P f h n (a + 1))

all_listed : {X : Type 0} (P : ℕ × X → Type 0) (f : ℕ → Option X) → ((a : ℕ) (x : X) → f a ≡ Some x → P (a, x)) → All P (listed f)
unfolding listed
all_listed P f h = each_holds P f h heap_end 0

-- only what is shared is listed
all_shared : {X : Type 0} (P : ℕ × X → Type 0) (base : ℕ) (f : ℕ → Option X) → ((a : ℕ) (x : X) → is_shared base a ≡ true → f a ≡ Some x → P (a, x))
    → All P (listed (shared base f))
all_shared {X} P base f h = all_listed P (shared base f) (λ a x e. by a (is_shared base a) refl x e)
  where
    by : (a : ℕ) (b : Bool) → is_shared base a ≡ b → (x : X) → (if b then f a else None) ≡ Some x → P (a, x)
    by a true q x e = h a x q e
    by a false q x e = absurd (none_some e)

-- ---- parts of a log

part_is : (log : List Touch) (mark : ℕ) (w : List Touch) → StandsAt log mark w → slice_range log mark (mark + length w) ≡ w
part_is log mark w h =
    let n : mark + length w - mark ≡ length w = omega arith in
    ap (λ n. take n (drop mark log)) n ∙ ap (λ l. take (length w) (drop mark l)) h.is
    ∙ ap (take (length w)) (drop_at h.before (w ++ h.later) mark h.at) ∙ take_at w h.later (length w) refl

-- the row of a call
record IsRow (r : Result State meaning.Call) (number : ℕ) (call : Call) : Type 0 where
  event : Marked meaning.Call
  at : slice_get r.events number ≡ Some event
  stands : slice_get (calls_in r) number ≡ Some event.event
  is : table_row (belows r.events) number event ≡ call

row_in : (bs : List ℕ) (call : Call) (from n : ℕ) (ms : List (Marked meaning.Call)) → slice_get (each_from (table_row bs) from ms) n ≡ Some call
    → (m : Marked meaning.Call) × (slice_get ms n ≡ Some m) × (slice_get (map (λ (e : Marked meaning.Call). e.event) ms) n ≡ Some m.event)
    × (table_row bs (from + n) m ≡ call)
row_in bs call from n [] e = absurd (none_some e)
row_in bs call from zero (m ∷ ms) e = (m, refl, refl, ap (λ k. table_row bs k m) (let x : from + 0 ≡ from = omega arith in x) ∙ some_same e)
row_in bs call from (suc n) (m ∷ ms) e =
    let h = row_in bs call (suc from) n ms e in
    (h.0, h.1, h.2, ap (λ k. table_row bs k h.0) (let x : from + suc n ≡ suc from + n = omega arith in x) ∙ h.3)

row_of : (r : Result State meaning.Call) (number : ℕ) (call : Call) → slice_get (each_from (table_row (belows r.events)) 0 r.events) number ≡ Some call
    → IsRow r number call
row_of r number call e =
    let h = row_in (belows r.events) call 0 number r.events e in
    record { event = h.0; at = h.1; stands = h.2; is = ap (λ k. table_row (belows r.events) k h.0) (let x : number ≡ 0 + number = omega arith in x) ∙ h.3 }

module _ (p : ProgramRows) (whole : WholeTables p) (laid : LaidOut p) (tokens : ℕ) (input : List ℕ) (budget number : ℕ) where
  abbrev kept : Recorded
  kept = recorded_of p tokens input budget

  abbrev scene : Scene
  scene = scene_of kept number

  module _ (r : Result State meaning.Call) (q : run p input budget ≡ Some r) (m : Marked meaning.Call) (at : slice_get r.events number ≡ Some m)
      (stands : slice_get (calls_in r) number ≡ Some m.event)
    where
      abbrev c : meaning.Call
      c = m.event

      whole_log : kept.log ≡ r.log
      whole_log = ap log_of q

      stand : StandsAt r.log m.mark c.log
      stand = subst (λ (e : Marked meaning.Call). StandsAt r.log e.mark e.event.log) (get_or_from_slice_get r.events number m m at)
          (stand_of p input budget r q number m (slice_get_within r.events number m at))

      own_part : slice_range kept.log m.mark (m.mark + length c.log) ≡ c.log
      own_part = ap (λ l. slice_range l m.mark (m.mark + length c.log)) whole_log ∙ part_is r.log m.mark c.log stand

      -- what no block has, in a run that made none
      all_idle : (a : ℕ) → heap_start ≤ a → scene.finding.block a ≡ None → AllIdle r.log
      all_idle a l n = idle_log a l r.log (run_first p input budget r q) (sym (ap (λ l. last_at a (blocks_of l)) whole_log) ∙ n)

      own_idle : (a : ℕ) → heap_start ≤ a → scene.finding.block a ≡ None → AllIdle c.log
      own_idle a l n = idle_left c.log stand.later (idle_right stand.before (c.log ++ stand.later) (subst AllIdle stand.is (all_idle a l n)))

      last_miss : (a : ℕ) (x : Seen) → heap_start ≤ a → scene.finding.block a ≡ None
          → seen_at a (slice_range kept.log m.mark (m.mark + length c.log)) ≡ Some x
          → IsLastMiss kept.log (table_row (belows r.events) number m) a x
      last_miss a x l n e =
          let s = seen_missed a l c.log (own_idle a l n) x (sym (ap (seen_at a) own_part) ∙ e) in
          let k = misses_end p input budget r q number c stands s.1.before (Touch.Has a false) s.1.after s.1.is refl in
          record {
            absent = s.0;
            in_heap = l;
            none_made = ap (list_any makes_variable) whole_log ∙ none_made r.log (all_idle a l n);
            before = s.1.before;
            last = own_part ∙ s.1.is ∙ ap (λ w. s.1.before ++ Touch.Has a false ∷ w) k.0;
            way = k.1;
          }

      no_change : (a : ℕ) (x : Change) → heap_start ≤ a → scene.finding.block a ≡ None
          → change_at a (slice_range kept.log m.mark (m.mark + length c.log)) ≡ Some x → ⊥
      no_change a x l n e = none_some (sym (unchanged a l c.log (own_idle a l n)) ∙ sym (ap (change_at a) own_part) ∙ e)

  module _ (call : Call) (e : slice_get kept.calls number ≡ Some call) where
    every : (n : ℕ) (d : Call) → slice_get kept.calls n ≡ Some d → IsFramed p kept.calls n d
    every n d h = frames_of_run p input budget n d h

    framed : IsFramed p kept.calls number call
    framed = every number call e

    -- the run, and a call's row
    record Of (n : ℕ) (d : Call) : Type 0 where
      result : Result State meaning.Call
      is : run p input budget ≡ Some result
      row : IsRow result n d

    of_outcome : (x : Outcome) → run p input budget ≡ x → (n : ℕ) (d : Call) → slice_get (recording_of p x).calls n ≡ Some d → Of n d
    of_outcome None q n d h = absurd (none_some h)
    of_outcome (Some r) q n d h = record { result = r; is = q; row = row_of r n d h }

    of : Of number call
    of = of_outcome (run p input budget) refl number call e

    -- each call has the copies that it was given
    copies_there : (n : ℕ) (d : Call) → slice_get kept.calls n ≡ Some d → HasCopies kept whole laid number d
    copies_there n d h =
        let o = of_outcome (run p input budget) refl n d h in
        let c = o.row.event.event in
        let base : c.entry.top ≡ c.base = ap (λ (c : meaning.Call). c.base) (made p input budget o.result o.is n c o.row.stands).record' in
        subst (HasCopies kept whole laid number) o.row.is (λ q has some.
        subst (λ top. HasFirstCopy p q top c.args) (sym base) (copies_begin p input budget o.result o.is n c o.row.stands laid q has some))

    root_there : (a : ℕ) → is_shared call.entry.top a ≡ true → Rooted kept whole laid number a (root_at scene a)
    root_there a s = rooted kept whole laid number copies_there call e every a (λ l. elim (shared_so call.entry.top a s) [
      | inl h ↦ h
      | inr h ↦ absurd (omega (arith, l, h))
    ])

    seen_as : (a : ℕ) (x : Seen) → seen_at a (part_of kept.log call) ≡ Some x → Rooted kept whole laid number a (root_at scene a)
        → SeenAs kept number call (a, x)
    seen_as a x e (HasRoot h) = OfNamed (Named h)
    seen_as a x e (IsLink h) = OfNamed (Link h)
    seen_as a x e (NoBlock l n) = OfLastMiss (subst (λ (d : Call). seen_at a (part_of kept.log d) ≡ Some x → IsLastMiss kept.log d a x) of.row.is
        (last_miss of.result of.is of.row.event of.row.at of.row.stands a x l n) e)

    changed_as : (a : ℕ) (x : Change) → change_at a (part_of kept.log call) ≡ Some x → Rooted kept whole laid number a (root_at scene a)
        → NamedAs scene a
    changed_as a x e (HasRoot h) = Named h
    changed_as a x e (IsLink h) = Link h
    changed_as a x e (NoBlock l n) = absurd (subst (λ (d : Call). change_at a (part_of kept.log d) ≡ Some x → ⊥) of.row.is
        (no_change of.result of.is of.row.event of.row.at of.row.stands a x l n) e)

    parameter : (place : ℕ) → 0 < place → place < frame_of p call.routine → IsSome (local_at scene (frame number call.routine call.entry.top) place)
    parameter place some less =
        place_named kept whole laid number (frame number call.routine call.entry.top) place framed.routine framed.has some
        (subst (λ o. place < frame_in o) framed.has less)

    copies : (q : Routine) → routine_at p call.routine ≡ Some q → (place : ℕ) → 0 < place → q.cells ≤ place → place < frame_size q call.args
        → IsSome (local_at scene (frame number call.routine call.entry.top) place)
    copies q h place some after inside = copy_named kept whole laid number number call e (copies_there number call e) place q h some after inside

    all_reads : All (SeenAs kept number call) (reads_of call.entry.top (part_of kept.log call))
    all_reads = all_shared (SeenAs kept number call) call.entry.top (λ a. seen_at a (part_of kept.log call)) (λ a x s h. seen_as a x h (root_there a s))

    all_changes : All (λ x. NamedAs scene x.0) (changes_of call.entry.top (part_of kept.log call))
    all_changes = all_shared (λ x. NamedAs scene x.0) call.entry.top (λ a. change_at a (part_of kept.log call)) (λ a x s h. changed_as a x h (root_there a s))

    result_typed : (v : Value) → call.result ≡ Some v → is_some (result_type p (routine_at p call.routine)) ≡ true
    result_typed v h =
        let c = of.row.event.event in
        let f : IsFunction p c = is_function p c (drop (number + 1) (calls_in of.result)) v (made p input budget of.result of.is number c of.row.stands)
        (ap (λ (d : Call). d.result) of.row.is ∙ h) in
        subst (λ n. is_some (result_type p (routine_at p n)) ≡ true) (ap (λ (d : Call). d.routine) of.row.is)
        (ap (λ o. is_some (result_type p o)) f.has ∙ function_result p whole c.routine f.routine f.has f.result)

    pub is_named : IsNamed kept number call
    is_named = record { parameters = parameter; copies = copies; reads = all_reads; changes = all_changes; result = result_typed }

-- ---- the calls as the program keeps them

pub cells_are_named : (p : ProgramRows) → WholeTables p → LaidOut p → (t : Lexed) (s : Supply) (number : ℕ) (call : Call)
    → slice_get (execution_of t p s).recorded.calls number ≡ Some call → IsNamed (execution_of t p s).recorded number call
cells_are_named p whole laid t s number call =
    subst (λ calls. slice_get calls number ≡ Some call
    → IsNamed (record (recorded_of p (length t.tokens) s.input s.budget) { calls = calls }) number call)
    (calls_kept p s (recording_of p (run p s.input s.budget)) refl)
    (is_named p whole laid (length t.tokens) s.input s.budget number call)
