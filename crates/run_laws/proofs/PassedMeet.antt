-- Where the actuals of a call meet the sections of a heading, they pass what its parameters take.
use Rattle.std.proofs.Common.{if◌then◌else◌, ◌&&◌, ◌++◌, ◌+◌, ◌<◌, ◌||◌, ◌∙◌, ◌∷◌, ◌≡◌, ◌≤◌, [], ℕ, Bool, List, None, Option, Some, ap, arith, eqb-true, false}
use Rattle.std.proofs.Common.{inl, inr, length, nat_eq, nat_lt, not, refl, replicate, subst, suc, sym, true, zero}
use Rattle.std.proofs.lemmas.Bool.Decides.{nat_tests}
use Rattle.core_program.proofs.{ActionsMeant.no, WholeActions.below_length, WholeParts.and_both, WholeParts.or_cases}
use Rattle.core_program.proofs.OutcomesCompose.{none_some, some_same}
use Rattle.core_program.specs.Headings.{section_at, section_in, signature_in, variable_type}
use Rattle.core_program.specs.ProgramRows.{ProgramRows, row_at, size_of, type_at, type_in}
use Rattle.core_program.specs.WholeTables.{Goes, ItemFits, RowFits, WholeTables, is_actual_item, is_conformant, is_end}
use Rattle.core_program.specs.declared.{headings.FormalSection.FormalSection, rows.ItemRow.ItemRow, rows.Mode.Mode, rows.PartRow.PartRow, rows.Row.Row}
use Rattle.whole_tables.specs.Fits.{same_bool}
use Rattle.run_laws.specs.{LaidOut.cells_accessed, LaidTests.section_meets, LaidTests.sections_in, LaidTests.sections_meet, LaidTests.takes_item}
use Rattle.run_laws.specs.LaidTests.{and_further_meet, heading_meets, is_passed_array, names_meet, next_actual, next_section, on_if, routine_meets}
use Rattle.run_laws.specs.ParameterPieces.{OfArray, OfCopy, OfRoutine, OfValue, OfVariable, ParameterPiece, and_further, bounds_before, name_piece}
use Rattle.run_laws.specs.ParameterPieces.{section_pieces, sections_pieces, signature_pieces, specs_of}

-- ---- what actuals pass

abbrev pub passed_in : ProgramRows → (rest : ℕ → List ParameterPiece) → Row → List ParameterPiece
passed_in p rest (Row.Item (ItemRow.Value v of' next)) = OfValue (size_of p of') ∷ rest next
passed_in p rest (Row.Item (ItemRow.Place a next)) = OfVariable (cells_accessed p (row_at p a)) ∷ rest next
passed_in p rest (Row.Item (ItemRow.ArrayPlace first a of' next)) = bounds_before first (specs_of p of') (OfArray ∷ rest next)
passed_in p rest (Row.Item (ItemRow.ArrayValue first v of' next)) = bounds_before first (specs_of p of') (OfCopy ∷ rest next)
passed_in p rest (Row.Item (ItemRow.Routine routine levels next)) = OfRoutine ∷ rest next
passed_in p rest (Row.Item (ItemRow.RoutineFormal formal levels next)) = OfRoutine ∷ rest next
passed_in p rest r = []

-- what the actuals from an item on pass, of which fewer than this many are gone through
abbrev pub passed_from : ℕ → ProgramRows → (at : ℕ) → List ParameterPiece
passed_from zero p at = []
passed_from (suc n) p at = if is_end at then [] else passed_in p (passed_from n p) (row_at p at)

-- No list has more items than there are rows.
abbrev pub passed_all : ProgramRows → (at : ℕ) → List ParameterPiece
passed_all p at = passed_from (suc (length p.rows)) p at

nothing_more : (p : ProgramRows) (n : ℕ) → passed_from n p 0 ≡ []
nothing_more p zero = refl
nothing_more p (suc n) = refl

-- where a list goes on after an item, fewer rows are left
onward : {next : ℕ} (P : ℕ → Type 0) (at : ℕ) → (is_end next || nat_lt at next) ≡ true → P 0 → ((next' : ℕ) → at < next' → P next') → P next
onward {next} P at h z k = elim (or_cases (is_end next) (nat_lt at next) h) [
  | inl e ↦ subst P (let q : 0 ≡ next = grind (arith, nat_tests, e) in q) z
  | inr l ↦ k next (let q : at < next = grind (arith, nat_tests, l) in q)
]

module _ (p : ProgramRows) (W : WholeTables p) where
  -- the item after one that stands there
  abbrev NextAfter : (at : ℕ) → Row → Type 0
  NextAfter at (Row.Item (ItemRow.Value v of' next)) = (is_end next || nat_lt at next) ≡ true
  NextAfter at (Row.Item (ItemRow.Place a next)) = (is_end next || nat_lt at next) ≡ true
  NextAfter at (Row.Item (ItemRow.ArrayPlace first a of' next)) = (is_end next || nat_lt at next) ≡ true
  NextAfter at (Row.Item (ItemRow.ArrayValue first v of' next)) = (is_end next || nat_lt at next) ≡ true
  NextAfter at (Row.Item (ItemRow.Routine routine levels next)) = (is_end next || nat_lt at next) ≡ true
  NextAfter at (Row.Item (ItemRow.RoutineFormal formal levels next)) = (is_end next || nat_lt at next) ≡ true
  NextAfter at r = Unit {0}

  goes_after : (at next : ℕ) → Goes is_actual_item p at next → (is_end next || nat_lt at next) ≡ true
  goes_after at next g = g.1

  next_in : (at : ℕ) (i : ItemRow) → ItemFits p at i → NextAfter at (Row.Item i)
  next_in at (ItemRow.Value v of' next) h = goes_after at next h.1
  next_in at (ItemRow.Place a next) h = goes_after at next h.1
  next_in at (ItemRow.ArrayPlace first a of' next) h = goes_after at next h.2
  next_in at (ItemRow.ArrayValue first v of' next) h = goes_after at next h.2
  next_in at (ItemRow.Routine routine levels next) h = goes_after at next h.1
  next_in at (ItemRow.RoutineFormal formal levels next) h = goes_after at next h.1
  next_in at i h = tt

  next_row : (at : ℕ) (r : Row) → RowFits p at r → NextAfter at r
  next_row at (Row.Item i) h = next_in at i h
  next_row at r h = tt

  abbrev IsStable : (n at : ℕ) → Type 0
  IsStable n at = passed_from n p at ≡ passed_from (suc n) p at

  in_row : (n at : ℕ) (r : Row) → NextAfter at r → ((next : ℕ) → (is_end next || nat_lt at next) ≡ true → IsStable n next)
      → passed_in p (passed_from n p) r ≡ passed_in p (passed_from (suc n) p) r
  in_row n at (Row.Item (ItemRow.Value v of' next)) h k = ap (λ qs. OfValue (size_of p of') ∷ qs) (k next h)
  in_row n at (Row.Item (ItemRow.Place a next)) h k = ap (λ qs. OfVariable (cells_accessed p (row_at p a)) ∷ qs) (k next h)
  in_row n at (Row.Item (ItemRow.ArrayPlace first a of' next)) h k = ap (λ qs. bounds_before first (specs_of p of') (OfArray ∷ qs)) (k next h)
  in_row n at (Row.Item (ItemRow.ArrayValue first v of' next)) h k = ap (λ qs. bounds_before first (specs_of p of') (OfCopy ∷ qs)) (k next h)
  in_row n at (Row.Item (ItemRow.Routine routine levels next)) h k = ap (λ qs. OfRoutine ∷ qs) (k next h)
  in_row n at (Row.Item (ItemRow.RoutineFormal formal levels next)) h k = ap (λ qs. OfRoutine ∷ qs) (k next h)
  in_row n at r h k = refl

  end_stable : (n : ℕ) → IsStable n 0
  end_stable n = nothing_more p n ∙ sym (nothing_more p (suc n))

  none_left : (at : ℕ) → length p.rows ≤ at → IsStable zero at
  none_left at l = elim (below_length p.rows at) [
    | inl e ↦ by (is_end at) (row_at p at) e
    | inr k ↦ absurd (omega (arith, l, k))
  ]
    where
      by : (b : Bool) (r : Row) → r ≡ Row.Nothing → [] ≡ (if b then [] else passed_in p (passed_from zero p) r)
      by true r e = refl
      by false r e = sym (ap (passed_in p (passed_from zero p)) e)

  same_if : (b : Bool) (xs ys : List ParameterPiece) → xs ≡ ys → (if b then [] else xs) ≡ (if b then [] else ys)
  same_if b xs ys e = ap (λ zs. if b then [] else zs) e

  -- one more that is looked at changes nothing, where no more rows are left than are looked at
  stable : (n at : ℕ) → length p.rows ≤ n + at → IsStable n at
  stable zero at l = none_left at (omega (arith, l))
  stable (suc n) at l = same_if (is_end at) _ _ (in_row n at (row_at p at) (next_row at (row_at p at) (W.rows at))
      (λ next h. onward (IsStable n) at h (end_stable n) (λ next' k. stable n next' (omega (arith, l, k)))))

  -- what is passed from an item on begins with what that passes
  pub unrolled : (at : ℕ) (r : Row) → row_at p at ≡ r → type_in r ≡ None → passed_all p at ≡ passed_in p (passed_all p) r
  unrolled at r e t = by (is_end at) refl
    where
      by : (b : Bool) → is_end at ≡ b → passed_all p at ≡ passed_in p (passed_all p) r
      by true q =
          let z : at ≡ 0 = grind (arith, nat_tests, q) in
          absurd (let c : None ≡ Some _ = sym t ∙ ap type_in (sym e) ∙ ap (type_at p) z ∙ W.integer in cc)
      by false q = ap (λ b. if b then [] else passed_in p (passed_from (length p.rows) p) (row_at p at)) q
          ∙ in_row (length p.rows) at (row_at p at) (next_row at (row_at p at) (W.rows at)) (λ next h. stable (length p.rows) next (omega arith))
          ∙ ap (passed_in p (passed_all p)) e

-- ---- tests taken apart

pub if_some : (b : Bool) (o : Option ℕ) (n : ℕ) → on_if b o ≡ Some n → (b ≡ true) × (o ≡ Some n)
if_some true o n h = (refl, h)
if_some false o n h = absurd (none_some h)

not_false : (b : Bool) → not b ≡ true → b ≡ false
not_false true h = no h
not_false false h = refl

bools : (a b : Bool) → same_bool a b ≡ true → a ≡ b
bools true b h = sym h
bools false true h = no h
bools false false h = refl

and_first : (b : Bool) → (b && true) ≡ b
and_first true = refl
and_first false = refl

and_further_on : (b : Bool) → (b && false) ≡ false
and_further_on true = refl
and_further_on false = refl

met : (f : (section at : ℕ) → Bool) (at next : ℕ) (o : Option ℕ) → and_further_meet f at (Some next) o ≡ true
    → (after : ℕ) × (o ≡ Some after) × (f next after ≡ true)
met f at next None h = no h
met f at next (Some after) h = (after, refl, h)

then_further : (b : Bool) (specs : ℕ) (xs ys : List ParameterPiece) → bounds_before b specs (xs ++ ys) ≡ bounds_before b specs xs ++ ys
then_further true specs xs ys = refl
then_further false specs xs ys = refl

-- ---- actuals for names

module _ (p : ProgramRows) (W : WholeTables p) where
  abbrev piece : Mode → (of' : ℕ) → ParameterPiece
  piece m of' = name_piece m (is_conformant p of') (size_of p of')

  abbrev Passes : Mode → (of' : ℕ) → (first : Bool) → Row → Type 0
  Passes m of' first r = (type_in r ≡ None)
      × (passed_in p (passed_all p) r ≡ bounds_before (is_conformant p of' && first) (specs_of p of') (piece m of' ∷ passed_all p (next_actual r)))

  value_passes : (of' given next : ℕ) (first c : Bool) → c ≡ false → size_of p given ≡ size_of p of' → OfValue (size_of p given) ∷ passed_all p next
      ≡ bounds_before (c && first) (specs_of p of') (OfValue (size_of p of') ∷ passed_all p next)
  value_passes of' given next first c f e = ap (λ n. OfValue n ∷ passed_all p next) e
      ∙ sym (ap (λ b. bounds_before (b && first) (specs_of p of') (OfValue (size_of p of') ∷ passed_all p next)) f)

  place_passes : (of' cells next : ℕ) (first c : Bool) → c ≡ false → cells ≡ size_of p of' → OfVariable cells ∷ passed_all p next
      ≡ bounds_before (c && first) (specs_of p of') (name_piece Mode.Place c (size_of p of') ∷ passed_all p next)
  place_passes of' cells next first c f e = ap (λ n. OfVariable n ∷ passed_all p next) e
      ∙ sym (ap (λ b. bounds_before (b && first) (specs_of p of') (name_piece Mode.Place b (size_of p of') ∷ passed_all p next)) f)

  array_passes : (m : Mode) (of' given next : ℕ) (first given_first c : Bool) → (c && (nat_eq given of' && same_bool given_first first)) ≡ true
      → bounds_before given_first (specs_of p given) (name_piece m true (size_of p of') ∷ passed_all p next)
      ≡ bounds_before (c && first) (specs_of p of') (name_piece m c (size_of p of') ∷ passed_all p next)
  array_passes m of' given next first given_first false h = no h
  array_passes m of' given next first given_first true h =
      let k = and_both (nat_eq given of') (same_bool given_first first) h in
      ap (λ t. bounds_before given_first (specs_of p t) (name_piece m true (size_of p of') ∷ passed_all p next)) (eqb-true given of' k.0)
      ∙ ap (λ b. bounds_before b (specs_of p of') (name_piece m true (size_of p of') ∷ passed_all p next)) (bools given_first first k.1)

  took : (m : Mode) (of' : ℕ) (first : Bool) (r : Row) → takes_item p m of' first r ≡ true → Passes m of' first r
  took Mode.Value of' first (Row.Item (ItemRow.Value v given next)) h =
      let k = and_both (not (is_conformant p of')) (nat_eq (size_of p given) (size_of p of')) h in
      (refl, value_passes of' given next first (is_conformant p of') (not_false _ k.0) (eqb-true _ _ k.1))
  took Mode.Place of' first (Row.Item (ItemRow.Place a next)) h =
      let k = and_both (not (is_conformant p of')) (nat_eq (cells_accessed p (row_at p a)) (size_of p of')) h in
      (refl, place_passes of' (cells_accessed p (row_at p a)) next first (is_conformant p of') (not_false _ k.0) (eqb-true _ _ k.1))
  took Mode.Place of' first (Row.Item (ItemRow.ArrayPlace given_first a given next)) h =
      (refl, array_passes Mode.Place of' given next first given_first (is_conformant p of') h)
  took Mode.Copy of' first (Row.Item (ItemRow.ArrayValue given_first v given next)) h =
      (refl, array_passes Mode.Copy of' given next first given_first (is_conformant p of') h)
  took m of' first r h = no h

  passed_by : (m : Mode) (of' at : ℕ) (first : Bool) → takes_item p m of' first (row_at p at) ≡ true → passed_all p at
      ≡ bounds_before (is_conformant p of' && first) (specs_of p of') (piece m of' ∷ passed_all p (next_actual (row_at p at)))
  passed_by m of' at first h = let t = took m of' first (row_at p at) h in unrolled p W at (row_at p at) refl t.0 ∙ t.1

  further_meet : (m : Mode) (of' n at end : ℕ) → names_meet n p m of' false at ≡ Some end → passed_all p at ≡ replicate n (piece m of') ++ passed_all p end
  further_meet m of' zero at end h = ap (passed_all p) (some_same h)
  further_meet m of' (suc n) at end h =
      let k = if_some (takes_item p m of' false (row_at p at)) (names_meet n p m of' false (next_actual (row_at p at))) end h in
      passed_by m of' at false k.0
      ∙ ap (λ b. bounds_before b (specs_of p of') (piece m of' ∷ passed_all p (next_actual (row_at p at)))) (and_further_on (is_conformant p of'))
      ∙ ap (λ qs. piece m of' ∷ qs) (further_meet m of' n (next_actual (row_at p at)) end k.1)

  first_meet : (m : Mode) (of' n at end : ℕ) → names_meet (suc n) p m of' true at ≡ Some end
      → passed_all p at ≡ bounds_before (is_conformant p of') (specs_of p of') (replicate (suc n) (piece m of')) ++ passed_all p end
  first_meet m of' n at end h =
      let k = if_some (takes_item p m of' true (row_at p at)) (names_meet n p m of' false (next_actual (row_at p at))) end h in
      passed_by m of' at true k.0
      ∙ ap (λ b. bounds_before b (specs_of p of') (piece m of' ∷ passed_all p (next_actual (row_at p at)))) (and_first (is_conformant p of'))
      ∙ ap (λ qs. bounds_before (is_conformant p of') (specs_of p of') (piece m of' ∷ qs)) (further_meet m of' n (next_actual (row_at p at)) end k.1)
      ∙ then_further (is_conformant p of') (specs_of p of') (replicate (suc n) (piece m of')) (passed_all p end)

  names_met : (m : Mode) (of' count at end : ℕ) → nat_lt 0 count ≡ true → names_meet count p m of' true at ≡ Some end
      → passed_all p at ≡ section_pieces p (FormalSection.Names m of' count) ++ passed_all p end
  names_met m of' zero at end l h = no l
  names_met m of' (suc n) at end l h = first_meet m of' n at end h

  -- ---- sections

  routine_met : (at end : ℕ) (r : Row) → row_at p at ≡ r → routine_meets r ≡ Some end → passed_all p at ≡ OfRoutine ∷ passed_all p end
  routine_met at end (Row.Item (ItemRow.Routine routine levels next)) e h = unrolled p W at (Row.Item (ItemRow.Routine routine levels next)) e refl
      ∙ ap (λ n. OfRoutine ∷ passed_all p n) (some_same h)
  routine_met at end (Row.Item (ItemRow.RoutineFormal formal levels next)) e h = unrolled p W at (Row.Item (ItemRow.RoutineFormal formal levels next)) e refl
      ∙ ap (λ n. OfRoutine ∷ passed_all p n) (some_same h)
  routine_met at end r e h = absurd (none_some h)

  none_passed : (at : ℕ) → is_end at ≡ true → passed_all p at ≡ []
  none_passed at h = ap (passed_all p) (let z : at ≡ 0 = grind (arith, nat_tests, h) in z)

  in_section : (n at : ℕ) (r : Row)
      → ((section after : ℕ) → sections_meet n p section after ≡ true → passed_all p after ≡ sections_pieces n p section)
      → and_further_meet (sections_meet n p) at (next_section r) (section_meets p r at) ≡ true
      → passed_all p at ≡ and_further p (sections_pieces n p) (section_in p r)
  in_section n at (Row.Item (ItemRow.Section m first count next)) rest h =
      let of' = variable_type (row_at p first) first in
      let k = met (sections_meet n p) at next (on_if (nat_lt 0 count) (names_meet count p m of' true at)) h in
      let c = if_some (nat_lt 0 count) (names_meet count p m of' true at) k.0 k.1 in
      names_met m of' count at k.0 c.0 c.1 ∙ ap (λ qs. section_pieces p (FormalSection.Names m of' count) ++ qs) (rest next k.0 k.2)
  in_section n at (Row.Item (ItemRow.RoutineSection heading next)) rest h =
      let k = met (sections_meet n p) at next (routine_meets (row_at p at)) h in
      routine_met at k.0 (row_at p at) refl k.1 ∙ ap (λ qs. OfRoutine ∷ qs) (rest next k.0 k.2)
  in_section n at r rest h = none_passed at h

  sections_met : (n section at : ℕ) → sections_meet n p section at ≡ true → passed_all p at ≡ sections_pieces n p section
  sections_met zero section at h = no h
  sections_met (suc n) section at h = in_section n at (row_at p section) (sections_met n) h

  pub heading_met : (actuals : ℕ) (r : Row) → heading_meets p actuals (sections_in r) ≡ true → passed_all p actuals ≡ signature_pieces p (signature_in r)
  heading_met actuals (Row.Part (PartRow.Heading name sections result)) h = sections_met (length p.rows) sections actuals h
  heading_met actuals r h = none_passed actuals h
