-- The value of each cell of a new frame.
use Rattle.std.proofs.Common.{◌++◌, ◌+◌, ◌-◌, ◌<◌, ◌∙◌, ◌∷◌, ◌≡◌, ◌≤◌, [], ℕ, List, Some, ap, arith, drop, length, min, refl, replicate, slice_get, suc, take}
use Rattle.std.proofs.{Common.zero, lemmas.List.length-append, lemmas.List.length-replicate, lemmas.List.length-take}
use Rattle.cell_value.specs.declared.values.Value.{Value, TheVariants.Undefined}
use Rattle.core_program.specs.{Run.copies_in, Run.frame_cells, declared.program.Routine.Routine}

module _ {A : Type 0} where
  get_left : (xs ys : List A) (i : ℕ) (x : A) → slice_get xs i ≡ Some x → slice_get (xs ++ ys) i ≡ Some x
  get_left [] ys i x h = absurd (let q : ⊥ = cc in q)
  get_left (z ∷ xs) ys zero x h = h
  get_left (z ∷ xs) ys (suc i) x h = get_left xs ys i x h

  get_right : (xs ys : List A) (i k : ℕ) → k ≡ length xs + i → slice_get (xs ++ ys) k ≡ slice_get ys i
  get_right [] ys i k e = ap (slice_get ys) (omega (arith, e))
  get_right (z ∷ xs) ys i zero e = absurd (let q : ⊥ = omega (arith, e) in q)
  get_right (z ∷ xs) ys i (suc k) e = get_right xs ys i k (omega (arith, e))

  get_taken : (xs : List A) (n i : ℕ) (x : A) → i < n → slice_get xs i ≡ Some x → slice_get (take n xs) i ≡ Some x
  get_taken [] n i x l h = absurd (let q : ⊥ = cc in q)
  get_taken (z ∷ xs) zero i x l h = absurd (let q : ⊥ = omega (arith, l) in q)
  get_taken (z ∷ xs) (suc n) zero x l h = h
  get_taken (z ∷ xs) (suc n) (suc i) x l h = get_taken xs n i x (omega (arith, l)) h

  get_dropped : (xs : List A) (n i k : ℕ) → k ≡ n + i → slice_get (drop n xs) i ≡ slice_get xs k
  get_dropped xs zero i k e = ap (slice_get xs) (omega (arith, e))
  get_dropped [] (suc n) i k e = refl
  get_dropped (z ∷ xs) (suc n) i zero e = absurd (let q : ⊥ = omega (arith, e) in q)
  get_dropped (z ∷ xs) (suc n) i (suc k) e = get_dropped xs n i k (omega (arith, e))

  get_filled : (n i : ℕ) (x : A) → i < n → slice_get (replicate n x) i ≡ Some x
  get_filled zero i x l = absurd (let q : ⊥ = omega (arith, l) in q)
  get_filled (suc n) zero x l = refl
  get_filled (suc n) (suc i) x l = get_filled n i x (omega (arith, l))

module _ (r : Routine) (args : List Value) where
  abbrev given : List Value
  given = take r.parameters args

  abbrev rest : List Value
  rest = replicate r.cells Undefined

  own_cells : length (take r.cells (given ++ rest)) ≡ r.cells
  own_cells =
      let a = length-take r.cells (given ++ rest) in
      let b = length-append given rest in
      let c = length-replicate r.cells Undefined in
      omega (arith, a, b, c)

  pub copied_cell : (i : ℕ) (v : Value) → r.cells ≤ i → slice_get args (r.parameters + (i - r.cells)) ≡ Some v
      → slice_get (frame_cells r args) i ≡ Some v
  copied_cell i v l h =
      let own = own_cells in
      let e : i ≡ length (take r.cells (given ++ rest)) + (i - r.cells) = omega (arith, own, l) in
      get_right (take r.cells (given ++ rest)) (copies_in r args) (i - r.cells) i e
      ∙ get_dropped args r.parameters (i - r.cells) (r.parameters + (i - r.cells)) refl ∙ h

  pub parameter_cell : (i : ℕ) (v : Value) → i < r.cells → i < r.parameters → slice_get args i ≡ Some v → slice_get (frame_cells r args) i ≡ Some v
  parameter_cell i v l k h = get_left (take r.cells (given ++ rest)) (copies_in r args) i v
      (get_taken (given ++ rest) r.cells i v l (get_left given rest i v (get_taken args r.parameters i v k h)))

  pub other_cell : (i : ℕ) → i < r.cells → min r.parameters (length args) ≤ i → slice_get (frame_cells r args) i ≡ Some Undefined
  other_cell i l k =
      let n = length-take r.parameters args in
      let e : i ≡ length given + (i - length given) = omega (arith, n, k) in
      let within : i - length given < r.cells = omega (arith, l) in
      get_left (take r.cells (given ++ rest)) (copies_in r args) i Undefined (get_taken (given ++ rest) r.cells i Undefined l
      (get_right given rest (i - length given) i e ∙ get_filled r.cells (i - length given) Undefined within))
