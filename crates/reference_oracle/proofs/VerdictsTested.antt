-- The test of verdicts tells what verdicts are.
use Rattle.std.proofs.Common.{if◌then◌else◌, ◌&&◌, ◌++◌, ◌+◌, ◌-◌, ◌<◌, ◌∙◌, ◌∷◌, ◌≡◌, ◌≤◌, [], ℕ, Bool, List, None, Option, Some, ap, arith, false, inl, inr}
use Rattle.std.proofs.Common.{map, nat_eq, nat_le, nat_lt, refl, subst, suc, sym, true, zero}
use Rattle.std.proofs.lemmas.Bool.{cases_Bool, Decides.eqb_tells, Decides.nat_tests}
use Rattle.std.proofs.lemmas.List.{Concat.flat_map-cons, Elements.All-cons, Elements.All-head, Elements.All-nil, Elements.All-tail}
use Rattle.std.specs.{Cmp.Lexicographic.bytes_decides, FinMap.get, List.All, List.list_all, List.range_with_len, Option.IsSome, Str.bytes_eq}
use Rattle.cell_value.specs.Effects.{changes_of, head_of, made_of, reads_of}
use Rattle.cell_value.specs.declared.{entries.Change.Change, entries.Seen.Seen, values.Value.Value, ways_out.Kind.Kind, ways_out.WayOut.WayOut}
use Rattle.core_program.proofs.{OutcomesCompose.none_some, RunAtAnyDepth.call_runs}
use Rattle.core_program.specs.{Agree.EndedByItself, Numbering.calls_of, ProgramRows.frame_of, ProgramRows.routine_at, Run.Call, Run.Outcome, Run.depth_enough}
use Rattle.core_program.specs.{Run.recorded, State.State, State.stack_end, WholeTables.WholeTables, declared.program.Routine.Routine}
use Rattle.body_replay.proofs.AgreementIsTested.{and_both, both, numbered_same, same_numbered, value_tells, value_told}
use Rattle.reference_oracle.specs.{Shapes.Programs, declared.matches.Match.Match}
use Rattle.reference_oracle.specs.Answers.{IsSameAnswer, SameWay, answer_of, bytes_given, items_taken, reference_args, reference_entry}
use Rattle.reference_oracle.specs.Fitting.{Asked, FitsReference, IsCommon, IsCommonValue, ReturnedOrFaulted, counterpart, if_same_headings, same_headings}
use Rattle.reference_oracle.specs.Laws as law
use Rattle.reference_oracle.specs.Matches.{common_addresses, in_reference, lies_among, matches}
use Rattle.reference_oracle.specs.Verdicts.{IsAnswered, Says, fits_reference, is_common, is_common_value, is_left_same, is_same_answer, is_same_cell}
use Rattle.reference_oracle.specs.Verdicts.{is_same_kind, is_same_way, returned_or_faulted, verdict_by_answer, verdict_by_end, verdict_by_routine, verdict_on}
use Rattle.reference_oracle.specs.declared.verdicts.Verdict.TheVariants.{Right, Unfit, Wrong}

absurd_truth : {A : Type 0} → false ≡ true → A
absurd_truth h = absurd (let z : false ≡ true = h in cc)

-- ---- tests of all

all_tell : {A : Type 0} (f : A → Bool) (P : A → Type 0) → ((x : A) → f x ≡ true → P x) → (xs : List A) → list_all f xs ≡ true → All P xs
all_tell f P each [] h = All-nil P
all_tell f P each (x ∷ xs) h = let b = both (f x) (list_all f xs) h in All-cons P x xs (each x b.0) (all_tell f P each xs b.1)

all_told : {A : Type 0} (f : A → Bool) (P : A → Type 0) → ((x : A) → P x → f x ≡ true) → (xs : List A) → All P xs → list_all f xs ≡ true
all_told f P each [] h = refl
all_told f P each (x ∷ xs) h =
    and_both (f x) (list_all f xs) (each x (All-head P x xs h)) (all_told f P each xs (All-tail P x xs h))

-- ---- the routine that answers

headed : (ps : Programs) (x y : Option Routine) → same_headings ps x y ≡ true → IsSome y
headed ps (Some r) (Some s) h = refl
headed ps (Some r) None h = absurd_truth h
headed ps None y h = absurd_truth h

routine_there : (ps : Programs) (routine s : ℕ) (o : Option ℕ) → if_same_headings ps routine o ≡ Some s → IsSome (routine_at ps.reference s)
routine_there ps routine s None e = absurd (none_some e)
routine_there ps routine s (Some t) e = by (same_headings ps (routine_at ps.subject routine) (routine_at ps.reference t)) refl e
  where
    by : (b : Bool) → same_headings ps (routine_at ps.subject routine) (routine_at ps.reference t) ≡ b → (if b then Some t else None) ≡ Some s
        → IsSome (routine_at ps.reference s)
    by true q e =
        let same : t ≡ s = cc in
        subst (λ r. IsSome (routine_at ps.reference r)) same (headed ps (routine_at ps.subject routine) (routine_at ps.reference t) q)
    by false q e = absurd (none_some e)

pub is_there : (a : Asked) (routine : ℕ) → counterpart a.programs a.call.routine ≡ Some routine → IsSome (routine_at a.programs.reference routine)
unfolding counterpart
is_there a routine e = routine_there a.programs a.call.routine routine _ e

-- ---- calls that fit

ways_tell : (w : WayOut) → returned_or_faulted w ≡ true → ReturnedOrFaulted w
ways_tell WayOut.Returned h = tt
ways_tell (WayOut.Faulted kind line) h = tt
ways_tell w h = absurd_truth h

ways_told : (w : WayOut) → ReturnedOrFaulted w → returned_or_faulted w ≡ true
ways_told WayOut.Returned h = refl
ways_told (WayOut.Faulted kind line) h = refl
ways_told w h = absurd h

common_tells : (a : Asked) (v : Value) → is_common_value a v ≡ true → IsCommonValue a v
common_tells a (Value.Place address) h = h
common_tells a v h = tt

common_told : (a : Asked) (v : Value) → IsCommonValue a v → is_common_value a v ≡ true
common_told a (Value.Place address) h = h
common_told a v h = refl

module _ (a : Asked) (routine : ℕ) where
  abbrev args : Bool
  args = list_all (is_common_value a) a.call.args

  abbrev reads : Bool
  reads = list_all (λ (x : ℕ × Seen). is_common a x.0) (reads_of a.call.base a.call.log)

  abbrev changes : Bool
  changes = list_all (λ (x : ℕ × Change). is_common a x.0) (changes_of a.call.base a.call.log)

  abbrev made : Bool
  made = nat_eq (made_of a.call.log) 0

  abbrev room : Bool
  room = nat_le (frame_of a.programs.reference 0 + frame_of a.programs.reference routine) stack_end

  pub fit_tells : counterpart a.programs a.call.routine ≡ Some routine → fits_reference a routine ≡ true → FitsReference a routine
  unfolding fits_reference
  fit_tells by h =
      let w = both (returned_or_faulted a.call.way) (args && (reads && (changes && (made && room)))) h in
      let g = both args (reads && (changes && (made && room))) w.1 in
      let r = both reads (changes && (made && room)) g.1 in
      let c = both changes (made && room) r.1 in
      let m = both made room c.1 in
      record {
        way = ways_tell a.call.way w.0;
        answered_by = by;
        args = all_tell (is_common_value a) (IsCommonValue a) (common_tells a) a.call.args g.0;
        reads = all_tell (λ (x : ℕ × Seen). is_common a x.0) (λ (x : ℕ × Seen). IsCommon a x.0) (λ x h. h) (reads_of a.call.base a.call.log) r.0;
        changes = all_tell (λ (x : ℕ × Change). is_common a x.0) (λ (x : ℕ × Change). IsCommon a x.0) (λ x h. h) (changes_of a.call.base a.call.log) c.0;
        made = same_numbered m.0;
        room = let k = m.1 in grind (arith, nat_tests, k);
      }

  pub fit_told : FitsReference a routine → fits_reference a routine ≡ true
  unfolding fits_reference
  fit_told f =
      and_both (returned_or_faulted a.call.way) (args && (reads && (changes && (made && room)))) (ways_told a.call.way f.way)
      (and_both args (reads && (changes && (made && room))) (all_told (is_common_value a) (IsCommonValue a) (common_told a) a.call.args f.args)
      (and_both reads (changes && (made && room))
      (all_told (λ (x : ℕ × Seen). is_common a x.0) (λ (x : ℕ × Seen). IsCommon a x.0) (λ x h. h) (reads_of a.call.base a.call.log) f.reads)
      (and_both changes (made && room)
      (all_told (λ (x : ℕ × Change). is_common a x.0) (λ (x : ℕ × Change). IsCommon a x.0) (λ x h. h) (changes_of a.call.base a.call.log) f.changes)
      (and_both made room (numbered_same f.made) (let k = f.room in grind (arith, nat_tests, k))))))

-- ---- the same answer

kind_tells : (k l : Kind) → is_same_kind k l ≡ true → k ≡ l
kind_tells Kind.Overflow Kind.Overflow h = refl
kind_tells Kind.ZeroDivisor Kind.ZeroDivisor h = refl
kind_tells Kind.BadModulus Kind.BadModulus h = refl
kind_tells Kind.OutOfRange Kind.OutOfRange h = refl
kind_tells Kind.Undefined Kind.Undefined h = refl
kind_tells Kind.NilPointer Kind.NilPointer h = refl
kind_tells Kind.Disposed Kind.Disposed h = refl
kind_tells Kind.InactiveVariant Kind.InactiveVariant h = refl
kind_tells Kind.NoCase Kind.NoCase h = refl
kind_tells Kind.PastEnd Kind.PastEnd h = refl
kind_tells Kind.BadNumber Kind.BadNumber h = refl
kind_tells Kind.BadWidth Kind.BadWidth h = refl
kind_tells Kind.UndefinedResult Kind.UndefinedResult h = refl
kind_tells k l h = absurd_truth h

kind_self : (k : Kind) → is_same_kind k k ≡ true
kind_self Kind.Overflow = refl
kind_self Kind.ZeroDivisor = refl
kind_self Kind.BadModulus = refl
kind_self Kind.OutOfRange = refl
kind_self Kind.Undefined = refl
kind_self Kind.NilPointer = refl
kind_self Kind.Disposed = refl
kind_self Kind.InactiveVariant = refl
kind_self Kind.NoCase = refl
kind_self Kind.PastEnd = refl
kind_self Kind.BadNumber = refl
kind_self Kind.BadWidth = refl
kind_self Kind.UndefinedResult = refl

same_way_tells : (w v : WayOut) → is_same_way w v ≡ true → SameWay w v
same_way_tells WayOut.Returned WayOut.Returned h = tt
same_way_tells (WayOut.Faulted kind line) (WayOut.Faulted other there) h = kind_tells kind other h
same_way_tells w v h = absurd_truth h

same_way_told : (w v : WayOut) → SameWay w v → is_same_way w v ≡ true
same_way_told WayOut.Returned WayOut.Returned h = refl
same_way_told (WayOut.Faulted kind line) (WayOut.Faulted other there) h = subst (λ k. is_same_kind kind k ≡ true) h (kind_self kind)
same_way_told w v h = absurd h

cell_tells : (o p : Option Value) → is_same_cell o p ≡ true → o ≡ p
cell_tells None None h = refl
cell_tells (Some v) (Some w) h = ap Some (value_tells v w h)
cell_tells None (Some w) h = absurd_truth h
cell_tells (Some v) None h = absurd_truth h

cell_self : (o : Option Value) → is_same_cell o o ≡ true
cell_self None = refl
cell_self (Some v) = value_told v

bytes_tell : (xs ys : List ℕ) → bytes_eq xs ys ≡ true → xs ≡ ys
bytes_tell xs ys h = (bytes_decides xs ys).0 h

bytes_self : (xs : List ℕ) → bytes_eq xs xs ≡ true
bytes_self xs = (bytes_decides xs xs).1 refl

-- ---- the cells of matching variables

lies_tell : (first cells address : ℕ) → lies_among first cells address ≡ true → (first ≤ address) × (address < first + cells)
lies_tell first cells address h =
    let b = both (nat_le first address) (nat_lt address (first + cells)) h in
    let l = b.0 in
    let r = b.1 in (grind (arith, nat_tests, l), grind (arith, nat_tests, r))

range_passes : (f : ℕ → Bool) (first n : ℕ) → list_all f (range_with_len first n) ≡ true → (k : ℕ) → first ≤ k → k < first + n → f k ≡ true
range_passes f first zero h k l m = absurd (omega (arith, l, m))
range_passes f first (suc n) h k l m =
    let b = both (f first) (list_all f (range_with_len (first + 1) n)) h in
    elim (eqb_tells k first) [
      | inl q ↦ subst (λ j. f j ≡ true) (sym q.1) b.0
      | inr q ↦ range_passes f (first + 1) n b.1 k (let z = q.1 in omega (arith, l, z)) (omega (arith, m))
    ]

all_parts : (f : ℕ → Bool) (xs ys : List ℕ) → list_all f (xs ++ ys) ≡ true → (list_all f xs ≡ true) × (list_all f ys ≡ true)
all_parts f [] ys h = (refl, h)
all_parts f (x ∷ xs) ys h =
    let b = both (f x) (list_all f (xs ++ ys)) h in
    let c = all_parts f xs ys b.1 in (and_both (f x) (list_all f xs) b.0 c.0, c.1)

-- a test of all addresses of matching variables is one of each that is moved
each_moved : (f : ℕ → Bool) (ms : List Match) → list_all f (common_addresses ms) ≡ true → (address there : ℕ) → in_reference ms address ≡ Some there
    → f address ≡ true
each_moved f [] h address there e = absurd (none_some e)
each_moved f (m ∷ ms) h address there e =
    let b = all_parts f (range_with_len m.subject m.cells) (common_addresses ms) (subst (λ xs. list_all f xs ≡ true) (flat_map-cons
    (λ (n : Match). range_with_len n.subject n.cells) m ms) h) in
    elim (cases_Bool (lies_among m.subject m.cells address)) [
      | inl q ↦ (let w = lies_tell m.subject m.cells address q in range_passes f m.subject m.cells b.0 address w.0 w.1)
      | inr q ↦ each_moved f ms b.1 address there
          (sym (ap (λ (d : Bool). if d then Some (m.reference + (address - m.subject)) else in_reference ms address) q) ∙ e)
    ]

-- a test that each address passes is passed by all
each_passes : (f : ℕ → Bool) → ((k : ℕ) → f k ≡ true) → (xs : List ℕ) → list_all f xs ≡ true
each_passes f h [] = refl
each_passes f h (x ∷ xs) = and_both (f x) (list_all f xs) (h x) (each_passes f h xs)

module _ (a : Asked) (d : Call) where
  abbrev moved : ℕ → Option ℕ
  moved = in_reference (matches a.programs)

  abbrev left : ℕ → Bool
  left address = is_left_same a d address (moved address)

  left_tells : (address there : ℕ) (o : Option ℕ) → o ≡ Some there → is_left_same a d address o ≡ true
      → get d.exit.cells there ≡ get a.call.exit.cells address
  left_tells address there None e h = absurd (none_some e)
  left_tells address there (Some t) e h =
      let same : t ≡ there = cc in
      subst (λ k. get d.exit.cells k ≡ get a.call.exit.cells address) same (cell_tells (get d.exit.cells t) (get a.call.exit.cells address) h)

  left_told : (address : ℕ) (o : Option ℕ) → ((there : ℕ) → o ≡ Some there → get d.exit.cells there ≡ get a.call.exit.cells address)
      → is_left_same a d address o ≡ true
  left_told address None h = refl
  left_told address (Some t) h =
      subst (λ v. is_same_cell (get d.exit.cells t) v ≡ true) (h t refl) (cell_self (get d.exit.cells t))

  abbrev cells : Bool
  cells = list_all left (common_addresses (matches a.programs))

  abbrev taken : Bool
  taken = nat_eq (items_taken d) (items_taken a.call)

  abbrev given : Bool
  given = bytes_eq (bytes_given d) (bytes_given a.call)

  same_tells : is_same_answer a d ≡ true → IsSameAnswer a d
  unfolding is_same_answer
  same_tells h =
      let w = both (is_same_way a.call.way d.way) (is_same_cell d.result a.call.result && (cells && (taken && given))) h in
      let r = both (is_same_cell d.result a.call.result) (cells && (taken && given)) w.1 in
      let c = both cells (taken && given) r.1 in
      let t = both taken given c.1 in
      record {
        way = same_way_tells a.call.way d.way w.0;
        result = cell_tells d.result a.call.result r.0;
        cells = λ address there e. left_tells address there (moved address) e (each_moved left (matches a.programs) c.0 address there e);
        taken = same_numbered t.0;
        given = bytes_tell (bytes_given d) (bytes_given a.call) t.1;
      }

  same_told : IsSameAnswer a d → is_same_answer a d ≡ true
  unfolding is_same_answer
  same_told s =
      and_both (is_same_way a.call.way d.way) (is_same_cell d.result a.call.result && (cells && (taken && given))) (same_way_told a.call.way d.way s.way)
      (and_both (is_same_cell d.result a.call.result) (cells && (taken && given))
      (subst (λ o. is_same_cell d.result o ≡ true) s.result (cell_self d.result))
      (and_both cells (taken && given)
      (each_passes left (λ address. left_told address (moved address) (s.cells address)) (common_addresses (matches a.programs)))
      (and_both taken given (numbered_same s.taken)
      (subst (λ bs. bytes_eq (bytes_given d) bs ≡ true) s.given (bytes_self (bytes_given d))))))

-- ---- verdicts

-- where the call fits there is an answer
answer_in : (f : ℕ) (xs : List Value) (σ : State) (x : Outcome) → IsSome (recorded f xs σ x)
    → IsSome (head_of (map (λ m. m.event) (calls_of (recorded f xs σ x))))
answer_in f xs σ None h = absurd_truth h
answer_in f xs σ (Some r) h = refl

pub has_answer : (a : Asked) → WholeTables a.programs.reference → (routine : ℕ) → FitsReference a routine → IsSome (answer_of a routine)
has_answer a W routine f =
    let p = a.programs.reference in
    let σ = reference_entry a in
    answer_in routine (reference_args a) σ _
    (call_runs p W routine (reference_args a) σ (depth_enough p σ.steps) (is_there a routine f.answered_by) (omega arith))

says_test : (a : Asked) (d : Call) → IsAnswered a d → EndedByItself d.way → (b : Bool) → is_same_answer a d ≡ b → Says a (if b then Right else Wrong)
says_test a d x ended true q = (d, x, ended, same_tells a d q)
says_test a d x ended false q = (d, x, ended, λ s. absurd_truth (sym q ∙ same_told a d s))

says_end : (a : Asked) (d : Call) → IsAnswered a d → (w : WayOut) → d.way ≡ w → Says a (verdict_by_end a d w)
says_end a d x WayOut.OutOfSteps q = (d, x, λ h. subst EndedByItself q h, q)
says_end a d x (WayOut.Limited which) q = (d, x, λ h. subst EndedByItself q h, q)
says_end a d x WayOut.Returned q = says_test a d x (subst EndedByItself (sym q) tt) (is_same_answer a d) refl
says_end a d x (WayOut.Faulted kind line) q = says_test a d x (subst EndedByItself (sym q) tt) (is_same_answer a d) refl
says_end a d x (WayOut.Jumped label base) q = says_test a d x (subst EndedByItself (sym q) tt) (is_same_answer a d) refl

says_answer : (a : Asked) (routine : ℕ) → FitsReference a routine → (o : Option Call) → answer_of a routine ≡ o → IsSome o → Says a (verdict_by_answer a o)
says_answer a routine f None e h = absurd_truth h
says_answer a routine f (Some d) e h = says_end a d (record { routine = routine; fits = f; answer = e }) d.way refl

pub same_routine : (a : Asked) (r s : ℕ) → counterpart a.programs a.call.routine ≡ Some r → counterpart a.programs a.call.routine ≡ Some s → r ≡ s
same_routine a r s e f = let same : Some r ≡ Some s = sym e ∙ f in cc

says_fit : (a : Asked) → WholeTables a.programs.reference → (routine : ℕ) → counterpart a.programs a.call.routine ≡ Some routine → (b : Bool)
    → fits_reference a routine ≡ b → Says a (if b then verdict_by_answer a (answer_of a routine) else Unfit)
says_fit a W routine e true q =
    let f = fit_tells a routine e q in says_answer a routine f (answer_of a routine) refl (has_answer a W routine f)
says_fit a W routine e false q = λ other f. absurd_truth (sym q
    ∙ subst (λ r. fits_reference a r ≡ true) (sym (same_routine a routine other e f.answered_by)) (fit_told a other f))

says_routine : (a : Asked) → WholeTables a.programs.reference → (o : Option ℕ) → counterpart a.programs a.call.routine ≡ o → Says a (verdict_by_routine a o)
says_routine a W None e = λ routine f. none_some (sym e ∙ f.answered_by)
says_routine a W (Some routine) e = says_fit a W routine e (fits_reference a routine) refl

pub is_tested : law.VerdictsAreTested
unfolding verdict_on
is_tested a W = says_routine a W (counterpart a.programs a.call.routine) refl
