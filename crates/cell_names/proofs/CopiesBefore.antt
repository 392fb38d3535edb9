-- The parameters of a frame, one after another from the last one back, in search of the copy that has a place.
use Rattle.std.proofs.Common.{if◌then◌else◌, ◌+◌, ◌-◌, ◌<◌, ◌==◌, ◌∙◌, ◌≡◌, ◌≤◌, ℕ, Bool, None, Option, Some, ap, arith, false, min, nat_le, refl, subst, suc}
use Rattle.std.proofs.{Common.sym, Common.true, Common.zero, lemmas.Bool.Decides.nat_tests}
use Rattle.core_program.specs.ProgramRows.{ProgramRows, row_at}
use Rattle.core_program.specs.declared.{program.Routine.Routine, rows.NameRow.NameRow, rows.Row.Row}
use Rattle.cell_names.proofs.CellsAlike.{after_begin}
use Rattle.cell_names.specs.{Names.result_local, Names.result_of, Places.is_begun, Places.is_begun_by, Walks.before_copy, Walks.moved_local}
use Rattle.cell_names.specs.Names.{Scene, array_local, begun_or, copied_local, copy_before, copy_by, copy_local, copy_of, is_result, local_in, part_local}
use Rattle.cell_names.specs.declared.{names.Frame.Frame, places.PlacedPart.PlacedPart}

by_test : (rest : Option PlacedPart) (copy x : PlacedPart) (b : Bool) → (if b then Some copy else None) ≡ Some x
    → (if b then Some copy else rest) ≡ Some x
by_test rest copy x true e = e
by_test rest copy x false e = absurd (let z : ◌≡◌ {A = Option PlacedPart} None (Some x) = e in cc)

begun_found : (place : ℕ) (rest o : Option PlacedPart) (x : PlacedPart) → begun_or place None o ≡ Some x → begun_or place rest o ≡ Some x
begun_found place rest None x e = absurd (let z : ◌≡◌ {A = Option PlacedPart} None (Some x) = e in cc)
begun_found place rest (Some copy) x e = by_test rest copy x (is_begun place copy) e

by_other : (rest : Option PlacedPart) (copy : PlacedPart) (b : Bool) → (if b then Some copy else None) ≡ None → (if b then Some copy else rest) ≡ rest
by_other rest copy true e = absurd (let z : ◌≡◌ {A = Option PlacedPart} (Some copy) None = e in cc)
by_other rest copy false e = refl

begun_later : (place : ℕ) (rest o : Option PlacedPart) → begun_or place None o ≡ None → begun_or place rest o ≡ rest
begun_later place rest None e = refl
begun_later place rest (Some copy) e = by_other rest copy (is_begun place copy) e

module _ (s : Scene) (f : Frame) (place most : ℕ) where
  copies_left : (taken from : ℕ) (o : Option PlacedPart) → taken < most → o ≡ s.finding.frame f.routine from
      → copy_by s f place (copy_before s f place (most - (taken + 1))) o ≡ copy_before s f place (most - taken) from
  copies_left taken from o below is =
      let e : most - taken ≡ suc (most - (taken + 1)) = omega (arith, below) in
      ap (copy_by s f place (copy_before s f place (most - (taken + 1)))) is ∙ ap (λ n. copy_before s f place n from) (sym e)

  -- there are no more parameters
  pub no_copy : (taken from : ℕ) → taken < most → ◌≡◌ {A = Option PlacedPart} None (s.finding.frame f.routine from)
      → None ≡ copy_before s f place (most - taken) from
  no_copy taken from below is = copies_left taken from None below is

  -- the copy of this one begins there or before
  pub copy_found : (taken from : ℕ) (part x : PlacedPart) → taken < most → Some part ≡ s.finding.frame f.routine from
      → begun_or place None (copy_of s f part) ≡ Some x → Some x ≡ copy_before s f place (most - taken) from
  copy_found taken from part x below is found =
      sym (begun_found place (copy_before s f place (most - (taken + 1)) (part.place - 1)) (copy_of s f part) x found)
      ∙ copies_left taken from (Some part) below is

  -- that of this one does not
  pub copy_on : (taken from : ℕ) (part : PlacedPart) → taken < most → Some part ≡ s.finding.frame f.routine from
      → begun_or place None (copy_of s f part) ≡ None
      → copy_before s f place (most - (taken + 1)) (part.place - 1) ≡ copy_before s f place (most - taken) from
  copy_on taken from part below is later =
      sym (begun_later place (copy_before s f place (most - (taken + 1)) (part.place - 1)) (copy_of s f part) later)
      ∙ copies_left taken from (Some part) below is

  pub copies_begin : (from : ℕ) → copy_before s f place (most - 0) from ≡ copy_before s f place most from
  copies_begin from = ap (λ n. copy_before s f place n from) (let e : most - 0 ≡ most = omega arith in e)

  pub copies_end : (taken from : ℕ) → most ≤ taken → None ≡ copy_before s f place (most - taken) from
  copies_end taken from past =
      let e : most - taken ≡ zero = omega (arith, past) in ap (λ n. copy_before s f place n from) (sym e)

-- ---- the places after one that have the same copy

begun_still : (place k : ℕ) (copy : PlacedPart) → is_begun place copy ≡ true → is_begun (place + k) copy ≡ true
begun_still place k copy e = grind (arith, nat_tests, e)

same_by : (rest other : Option PlacedPart) (copy : PlacedPart) (place k more : ℕ) (b : Bool) → is_begun place copy ≡ b
    → (if b then None else Some (min more (copy.place - place - 1))) ≡ None
    → begun_or (place + k) rest (Some copy) ≡ begun_or place other (Some copy)
same_by rest other copy place k more true begun e =
    ap (λ (b : Bool). if b then Some copy else rest) (begun_still place k copy begun) ∙ sym (ap (λ (b : Bool). if b then Some copy else other) begun)
same_by rest other copy place k more false begun e =
    absurd (let z : ◌≡◌ {A = Option ℕ} (Some (min more (copy.place - place - 1))) None = e in cc)

-- the copy begins at the place or before it, so it does for the places after it
same_copy : (rest other o : Option PlacedPart) (place k more : ℕ) → before_copy place o more ≡ None
    → begun_or (place + k) rest o ≡ begun_or place other o
same_copy rest other None place k more e = absurd (let z : ◌≡◌ {A = Option ℕ} (Some more) None = e in cc)
same_copy rest other (Some copy) place k more e = same_by rest other copy place k more (is_begun place copy) refl e

abbrev number_or : (d : ℕ) → Option ℕ → ℕ
number_or d None = d
number_or d (Some n) = n

not_begun : (copy : PlacedPart) (place k more fewer : ℕ) → is_begun place copy ≡ false → min more (copy.place - place - 1) ≡ fewer → k ≤ fewer
    → (k ≤ more) × (is_begun (place + k) copy ≡ false)
not_begun copy place k more fewer later is below = grind (arith, nat_tests, later, is, below)

later_by : (rest : Option PlacedPart) (copy : PlacedPart) (place k more fewer : ℕ) (b : Bool) → is_begun place copy ≡ b
    → (if b then None else Some (min more (copy.place - place - 1))) ≡ Some fewer → k ≤ fewer
    → (k ≤ more) × (begun_or (place + k) rest (Some copy) ≡ rest)
later_by rest copy place k more fewer true begun e below = absurd (let z : ◌≡◌ {A = Option ℕ} None (Some fewer) = e in cc)
later_by rest copy place k more fewer false begun e below =
    let is : min more (copy.place - place - 1) ≡ fewer = ap (number_or 0) e in
    let both = not_begun copy place k more fewer begun is below in
    (both.0, ap (λ (b : Bool). if b then Some copy else rest) both.1)

-- the copy begins after these places
later_copy : (rest o : Option PlacedPart) (place k more fewer : ℕ) → before_copy place o more ≡ Some fewer → k ≤ fewer
    → (k ≤ more) × (begun_or (place + k) rest o ≡ rest)
later_copy rest None place k more fewer e below =
    let is : more ≡ fewer = ap (number_or 0) e in (subst (λ n. k ≤ n) (sym is) below, refl)
later_copy rest (Some copy) place k more fewer e below = later_by rest copy place k more fewer (is_begun place copy) refl e below

module _ (s : Scene) (f : Frame) (place most : ℕ) where
  -- this many places after one have the same copy, if they have so by the parameters that are left
  pub AlikeSoFar : (first taken from more : ℕ) → Type 0
  AlikeSoFar first taken from more =
      (k : ℕ) → k ≤ more → copy_before s f (place + k) (most - taken) from ≡ copy_before s f place (most - taken) from
      → copy_before s f (place + k) most first ≡ copy_before s f place most first

  pub alike_begins : (first more : ℕ) → AlikeSoFar first 0 first more
  unfolding AlikeSoFar
  alike_begins first more = λ k below same.
      sym (copies_begin s f (place + k) most first) ∙ same ∙ copies_begin s f place most first

  pub alike_nowhere : (first taken from more : ℕ) → taken < most → ◌≡◌ {A = Option PlacedPart} None (s.finding.frame f.routine from)
      → AlikeSoFar first taken from more
      → (k : ℕ) → k ≤ more → copy_before s f (place + k) most first ≡ copy_before s f place most first
  unfolding AlikeSoFar
  alike_nowhere first taken from more within is so_far = λ k below.
      so_far k below (sym (no_copy s f (place + k) most taken from within is) ∙ no_copy s f place most taken from within is)

  pub alike_found : (first taken from more : ℕ) (part : PlacedPart) → taken < most → Some part ≡ s.finding.frame f.routine from
      → before_copy place (copy_of s f part) more ≡ None → AlikeSoFar first taken from more
      → (k : ℕ) → k ≤ more → copy_before s f (place + k) most first ≡ copy_before s f place most first
  unfolding AlikeSoFar
  alike_found first taken from more part within is found so_far = λ k below.
      so_far k below
      (sym (copies_left s f (place + k) most taken from (Some part) within is)
      ∙ same_copy (copy_before s f (place + k) (most - (taken + 1)) (part.place - 1)) (copy_before s f place (most - (taken + 1)) (part.place - 1))
      (copy_of s f part) place k more found
      ∙ copies_left s f place most taken from (Some part) within is)

  pub alike_on : (first taken from more fewer : ℕ) (part : PlacedPart) → taken < most → Some part ≡ s.finding.frame f.routine from
      → before_copy place (copy_of s f part) more ≡ Some fewer → AlikeSoFar first taken from more
      → AlikeSoFar first (taken + 1) (part.place - 1) fewer
  unfolding AlikeSoFar
  alike_on first taken from more fewer part within is later so_far = λ k below same.
      let copy = copy_of s f part in
      let there = copy_before s f (place + k) (most - (taken + 1)) (part.place - 1) in
      let here = copy_before s f place (most - (taken + 1)) (part.place - 1) in
      let after = later_copy there copy place k more fewer later below in
      let same_place : place + 0 ≡ place = omega arith in
      let at : begun_or place here copy ≡ here =
      sym (ap (λ n. begun_or n here copy) same_place) ∙ (later_copy here copy place 0 more fewer later (omega arith)).1 in
      so_far k after.0
      (sym (copies_left s f (place + k) most taken from (Some part) within is) ∙ after.1 ∙ same ∙ sym at
      ∙ copies_left s f place most taken from (Some part) within is)

  pub alike_ends : (first taken from more : ℕ) → most ≤ taken → AlikeSoFar first taken from more
      → (k : ℕ) → k ≤ more → copy_before s f (place + k) most first ≡ copy_before s f place most first
  unfolding AlikeSoFar
  alike_ends first taken from more past so_far = λ k below.
      so_far k below (sym (copies_end s f (place + k) most taken from past) ∙ copies_end s f place most taken from past)

-- ---- cells of one copy

begun_one : (place : ℕ) (rest : Option PlacedPart) (copy : PlacedPart) (b : Bool) → is_begun place copy ≡ b → is_begun_by place rest ≡ true
    → is_begun_by place (if b then Some copy else rest) ≡ true
begun_one place rest copy true e other = e
begun_one place rest copy false e other = other

begun_any : (place : ℕ) (rest o : Option PlacedPart) → is_begun_by place rest ≡ true → is_begun_by place (begun_or place rest o) ≡ true
begun_any place rest None other = other
begun_any place rest (Some copy) other = begun_one place rest copy (is_begun place copy) refl other

begun_next : (s : Scene) (f : Frame) (place : ℕ) (go : ℕ → Option PlacedPart) (o : Option PlacedPart)
    → ((from : ℕ) → is_begun_by place (go from) ≡ true) → is_begun_by place (copy_by s f place go o) ≡ true
begun_next s f place go None others = refl
begun_next s f place go (Some x) others = begun_any place (go (x.place - 1)) (copy_of s f x) (others (x.place - 1))

copies_begun : (s : Scene) (f : Frame) (place most from : ℕ) → is_begun_by place (copy_before s f place most from) ≡ true
copies_begun s f place zero from = refl
copies_begun s f place (suc most) from =
    begun_next s f place (copy_before s f place most) (s.finding.frame f.routine from) (copies_begun s f place most)

array_moves : (call token place k : ℕ) (r : Row) → array_local call token (place + k) r ≡ moved_local k (array_local call token place r)
array_moves call token place k (Row.Name (NameRow.Variable mode' of' at level)) = refl
array_moves call token place k r = refl

copied_moves : (p : ProgramRows) (call place k : ℕ) (copy : Option PlacedPart) → is_begun_by place copy ≡ true
    → copied_local p call (place + k) copy ≡ moved_local k (copied_local p call place copy)
copied_moves p call place k None e = refl
copied_moves p call place k (Some copy) e =
    ap (λ n. array_local call copy.number n (row_at p copy.number)) (after_begin copy.place place k e)
    ∙ array_moves call copy.number (place - copy.place) k (row_at p copy.number)

in_copy : (s : Scene) (f : Frame) (place : ℕ) (r : Routine) → (place == 0) ≡ false → nat_le r.cells place ≡ true
    → local_in s f place (Some r) ≡ copy_local s f place r
in_copy s f place r first past =
    let own = part_local s.program f.call place (s.finding.frame f.routine place) in
    let result = result_local r (result_of (row_at s.program r.heading)) in
    let copy = copy_local s f place r in
    ap (λ (b : Bool). if b then None else (if nat_le r.cells place then copy else (if is_result r.result place then result else own))) first
    ∙ ap (λ (b : Bool). if b then copy else (if is_result r.result place then result else own)) past

pub copy_moves : (s : Scene) (f : Frame) (place k : ℕ) (r : Routine) → (place == 0) ≡ false → nat_le r.cells place ≡ true
    → copy_before s f (place + k) r.parameters (r.parameters - 1) ≡ copy_before s f place r.parameters (r.parameters - 1)
    → local_in s f (place + k) (Some r) ≡ moved_local k (local_in s f place (Some r))
copy_moves s f place k r first past same =
    let z : (place + k == 0) ≡ false = grind (arith, nat_tests, first) in
    let w : nat_le r.cells (place + k) ≡ true = grind (arith, nat_tests, past) in
    let copy = copy_before s f place r.parameters (r.parameters - 1) in
    in_copy s f (place + k) r z w ∙ ap (copied_local s.program f.call (place + k)) same
    ∙ copied_moves s.program f.call place k copy (copies_begun s f place r.parameters (r.parameters - 1))
    ∙ sym (ap (moved_local k) (in_copy s f place r first past))
