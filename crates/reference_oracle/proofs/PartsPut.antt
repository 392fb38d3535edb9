-- Parts are put to the lists of what they are parts of.
use Rattle.std.proofs.Common.{if◌then◌else◌, ◌++◌, ◌+◌, ◌-◌, ◌<◌, ◌==◌, ◌∙◌, ◌∷◌, ◌≡◌, ◌≤◌, [], ℕ, Bool, List, None, Option, Some, ap, append-nil, append_assoc}
use Rattle.std.proofs.Common.{arith, false, flat_map, inl, inr, length, refl, slice_get, slice_set, subst, suc, sym, true, zero}
use Rattle.std.proofs.lemmas.{Bool.cases_eq, Bool.Decides.nat_tests, List.Concat.flat_map-cons}
use Rattle.std.specs.{Global.Vec, List.range_with_len}
use Rattle.core_program.specs.ProgramRows.{ProgramRows, row_at}
use Rattle.reference_oracle.proofs.RecordsCompared.{range_first}
use Rattle.reference_oracle.specs.{PartsKept.list_in, PartsKept.parts_at, Shapes.parts_in, Shapes.record_parts_of, declared.parts.RecordPart.RecordPart}

-- ---- columns

pub set_here : {A : Type 0} (xs : List A) (i : ℕ) (x : A) → i < length xs → slice_get (slice_set xs i x) i ≡ Some x
set_here [] i x h = absurd (omega arith)
set_here (y ∷ xs) zero x h = refl
set_here (y ∷ xs) (suc i) x h = set_here xs i x (omega arith)

pub set_elsewhere : {A : Type 0} (xs : List A) (i j : ℕ) (x : A) → (j ≡ i → ⊥) → slice_get (slice_set xs i x) j ≡ slice_get xs j
set_elsewhere [] i j x h = refl
set_elsewhere (y ∷ xs) zero zero x h = absurd (h refl)
set_elsewhere (y ∷ xs) zero (suc j) x h = refl
set_elsewhere (y ∷ xs) (suc i) zero x h = refl
set_elsewhere (y ∷ xs) (suc i) (suc j) x h = set_elsewhere xs i j x (λ e. h (ap suc e))

-- ---- lists of parts

pub one_empty : (lists : List (Vec RecordPart)) (v : Vec RecordPart) → v.items ≡ [] → ((whole : ℕ) → parts_at lists whole ≡ [])
    → (whole : ℕ) → parts_at (lists ++ v ∷ []) whole ≡ []
one_empty [] v none h zero = none
one_empty [] v none h (suc whole) = refl
one_empty (w ∷ lists) v none h zero = h zero
one_empty (w ∷ lists) v none h (suc whole) = one_empty lists v none (λ n. h (suc n)) whole

pub one_put : (lists : List (Vec RecordPart)) (holder : ℕ) (v : Vec RecordPart) (more : List RecordPart) → holder < length lists
    → v.items ≡ parts_at lists holder ++ more
    → (whole : ℕ) → parts_at (slice_set lists holder v) whole ≡ parts_at lists whole ++ (if whole == holder then more else [])
one_put lists holder v more less put whole = elim (cases_eq whole holder) [
  | inl here ↦ subst (λ w. parts_at (slice_set lists holder v) w ≡ parts_at lists w ++ (if w == holder then more else [])) (sym here)
      (ap list_in (set_here lists holder v less) ∙ put
      ∙ ap (λ (b : Bool). parts_at lists holder ++ (if b then more else [])) (let e : true ≡ (holder == holder) = grind (arith, nat_tests) in e))
  | inr other ↦
      ap list_in (set_elsewhere lists holder whole v other) ∙ sym (append-nil (parts_at lists whole))
      ∙ ap (λ (b : Bool). parts_at lists whole ++ (if b then more else [])) (let e : false ≡ (whole == holder) = grind (arith, nat_tests) in e)
]

-- ---- token by token

abbrev pub LeftFrom : ProgramRows → (lists : List (Vec RecordPart)) → (token : ℕ) → Type 0
LeftFrom p lists token = (whole : ℕ)
    → parts_at lists whole ++ flat_map (λ t. parts_in p whole t (row_at p t)) (range_with_len token (length p.rows - token)) ≡ record_parts_of p whole

pub none_put : (p : ProgramRows) (lists : List (Vec RecordPart)) → ((whole : ℕ) → parts_at lists whole ≡ []) → LeftFrom p lists 0
unfolding record_parts_of
none_put p lists none whole =
    let n = length p.rows in
    let here : ℕ → List RecordPart = λ t. parts_in p whole t (row_at p t) in
    ap (λ l. l ++ flat_map here (range_with_len 0 (n - 0))) (none whole)
    ∙ ap (λ k. flat_map here (range_with_len 0 k)) (let z : n - 0 ≡ n = omega arith in z)

pub token_put : (p : ProgramRows) (old new : List (Vec RecordPart)) (token : ℕ) → token < length p.rows
    → ((whole : ℕ) → parts_at new whole ≡ parts_at old whole ++ parts_in p whole token (row_at p token)) → LeftFrom p old token
    → LeftFrom p new (token + 1)
token_put p old new token less put before whole =
    let n = length p.rows in
    let here : ℕ → List RecordPart = λ t. parts_in p whole t (row_at p t) in
    let rest = range_with_len (token + 1) (n - (token + 1)) in
    ap (λ l. l ++ flat_map here rest) (put whole)
    ∙ append_assoc (parts_at old whole) (here token) (flat_map here rest)
    ∙ ap (λ l. parts_at old whole ++ l) (sym (ap (flat_map here) (range_first token n less) ∙ flat_map-cons here token rest))
    ∙ before whole

pub all_put : (p : ProgramRows) (lists : List (Vec RecordPart)) (token : ℕ) → length p.rows ≤ token → LeftFrom p lists token
    → (whole : ℕ) → parts_at lists whole ≡ record_parts_of p whole
all_put p lists token done before whole =
    let n = length p.rows in
    let here : ℕ → List RecordPart = λ t. parts_in p whole t (row_at p t) in
    sym (append-nil (parts_at lists whole))
    ∙ ap (λ k. parts_at lists whole ++ flat_map here (range_with_len token k)) (let z : 0 ≡ n - token = omega arith in z)
    ∙ before whole
