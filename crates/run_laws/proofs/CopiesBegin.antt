-- Where a call was given copies, a parameter has the address of the first.
use Rattle.std.proofs.Common.{◌++◌, ◌+◌, ◌<◌, ◌∙◌, ◌∷◌, ◌≡◌, ◌⊎◌, [], ℕ, List, Some, ap, append_assoc, arith, drop, inl, inr, length, length-append, refl}
use Rattle.std.proofs.Common.{slice_get, subst, suc, sym, zero}
use Rattle.std.proofs.Math.Seq.{drop-append_seam}
use Rattle.cell_value.specs.declared.values.Value.{Value}
use Rattle.core_program.{proofs.OutcomesCompose.none_some, specs.ProgramRows.ProgramRows, specs.ProgramRows.routine_at, specs.ProgramRows.row_at}
use Rattle.core_program.specs.{Conformant.bound_values, Run.Call, Run.Result, Run.copies_in, Run.run, RunLaws.calls_in, State.State}
use Rattle.core_program.specs.declared.{components.Extent.Extent, program.Routine.Routine, rows.Mode.Mode}
use Rattle.run_laws.proofs.{PassedFill.bounds_cells, RunsFill.parameters_filled}
use Rattle.run_laws.specs.LaidOut.{AllStand, IsVariableAt, LaidOut}
use Rattle.run_laws.specs.ParameterLaws.{CopyBegins, Filled, FillsParameters, HasFirstCopy}
use Rattle.run_laws.specs.ParameterLaws as fills
use Rattle.run_laws.specs.ParameterPieces.{OfCopy, ParameterPiece, heading_pieces, heading_tokens, piece_cells}

-- behind these cells, where a piece for a copy is the first that there is
record FirstCopy (p : ProgramRows) (from : ℕ) (ts : List ℕ) (qs : List ParameterPiece) (at : ℕ) (front cells : List Value) : Type 0 where
  place : ℕ
  token : ℕ
  inside : place < from + length cells
  piece : CopyBegins from ts qs place token
  named : IsVariableAt Mode.Copy place (row_at p token)
  address : slice_get (front ++ cells) place ≡ Some (Value.Place at)

abbrev NoneOr : ProgramRows → (from : ℕ) → List ℕ → List ParameterPiece → (at : ℕ) → (front cells copied : List Value) → Type 0
NoneOr p from ts qs at front cells copied = (copied ≡ []) ⊎ FirstCopy p from ts qs at front cells

-- so it is with one piece more
after_piece : (p : ProgramRows) {from t at : ℕ} {ts : List ℕ} {q : ParameterPiece} {qs : List ParameterPiece} {front cells : List Value} (vs : List Value)
    → length vs ≡ piece_cells q → FirstCopy p (from + length vs) ts qs at (front ++ vs) cells
    → FirstCopy p from (t ∷ ts) (q ∷ qs) at front (vs ++ cells)
after_piece p {from} {t} {at} {ts} {q} {qs} {front} {cells} vs e c = record {
  place = c.place;
  token = c.token;
  inside = let a = c.inside in let b = length-append vs cells in omega (arith, a, b);
  piece = inr (subst (λ n. CopyBegins (from + n) ts qs c.place c.token) e c.piece);
  named = c.named;
  address = subst (λ xs. slice_get xs c.place ≡ Some (Value.Place at)) (append_assoc front vs cells) c.address;
}

-- the rest stands after a piece
rest_stands : (p : ProgramRows) (from : ℕ) (t : ℕ) (ts : List ℕ) (q : ParameterPiece) (qs : List ParameterPiece) (n : ℕ) → n ≡ piece_cells q
    → AllStand p from (t ∷ ts) (q ∷ qs) → AllStand p (from + n) ts qs
rest_stands p from t ts q qs n e s = subst (λ n. AllStand p (from + n) ts qs) (sym e) s.1

at_seam : (front : List Value) (v : Value) (cells : List Value) → slice_get (front ++ v ∷ cells) (length front) ≡ Some v
at_seam [] v cells = refl
at_seam (x ∷ xs) v cells = at_seam xs v cells

longer : (front vs : List Value) (from : ℕ) → length front ≡ from → length (front ++ vs) ≡ from + length vs
longer front vs from e = length-append front vs ∙ ap (λ n. n + length vs) e

module _ (p : ProgramRows) where
  -- what is found behind cells, wherever they stand
  abbrev Finds : List ParameterPiece → (at : ℕ) → (cells copied : List Value) → Type 0
  Finds qs at cells copied = (from : ℕ) (ts : List ℕ) (front : List Value) → length front ≡ from → AllStand p from ts qs
      → NoneOr p from ts qs at front cells copied

  one_more : {q : ParameterPiece} {qs : List ParameterPiece} {at : ℕ} {cells copied : List Value} (vs : List Value) → length vs ≡ piece_cells q
      → Finds qs at cells copied → Finds (q ∷ qs) at (vs ++ cells) copied
  one_more vs l k from [] front e s = absurd s
  one_more {q = q} {qs = qs} vs l k from (t ∷ ts) front e s =
      elim (k (from + length vs) ts (front ++ vs) (longer front vs from e) (rest_stands p from t ts q qs (length vs) l s)) [
        | inl none ↦ inl none
        | inr c ↦ inr (after_piece p vs l c)
      ]

  first_copy : {qs : List ParameterPiece} {at : ℕ} {cells copied : List Value} → Filled qs at cells copied → Finds qs at cells copied
  first_copy fills.Full from ts front e s = inl refl
  first_copy (fills.ByValue vs f) from ts front e s = one_more vs refl (first_copy f) from ts front e s
  first_copy (fills.WithBounds es f) from ts front e s = one_more (bound_values es) (bounds_cells es) (first_copy f) from ts front e s
  first_copy (fills.ByAddress {address = a} f) from ts front e s = one_more (Value.Place a ∷ []) refl (first_copy f) from ts front e s
  first_copy (fills.ArrayByAddress {address = a} f) from ts front e s = one_more (Value.Place a ∷ []) refl (first_copy f) from ts front e s
  first_copy (fills.ByCopy vs f) from [] front e s = absurd s
  first_copy (fills.ByCopy {at = at} {cells = cells} vs f) from (t ∷ ts) front e s = inr (record {
    place = from;
    token = t;
    inside = omega arith;
    piece = inl (refl, refl, refl);
    named = s.0;
    address = subst (λ n. slice_get (front ++ Value.Place at ∷ cells) n ≡ Some (Value.Place at)) e (at_seam front (Value.Place at) cells);
  })
  first_copy (fills.WithRoutine {routine = r} {frame = b} f) from ts front e s = one_more (Value.Routine r b ∷ []) refl (first_copy f) from ts front e s

-- what stands behind does not matter
get_before : (xs ys : List Value) (k : ℕ) (v : Value) → slice_get xs k ≡ Some v → slice_get (xs ++ ys) k ≡ Some v
get_before [] ys k v e = absurd (none_some e)
get_before (x ∷ xs) ys zero v e = e
get_before (x ∷ xs) ys (suc k) v e = get_before xs ys k v e

copies_are : (p : ProgramRows) (r : Routine) (base : ℕ) (args : List Value) (f : FillsParameters p r base args) → copies_in r args ≡ f.copied
copies_are p r base args f =
    let e = f.parameters in
    ap (λ n. drop n args) (let z : r.parameters ≡ suc (length f.cells) = omega (arith, e) in z) ∙ ap (drop (suc (length f.cells))) f.is
    ∙ drop-append_seam (f.link ∷ f.cells) f.copied

has_copy : (p : ProgramRows) → LaidOut p → (r : Routine) (base : ℕ) (args : List Value) → FillsParameters p r base args → 0 < length (copies_in r args)
    → HasFirstCopy p r base args
has_copy p L r base args f l = by (first_copy p f.filled 1 (heading_tokens p r.heading) (f.link ∷ []) refl (L.headings r.heading))
  where
    by : NoneOr p 1 (heading_tokens p r.heading) (heading_pieces p r.heading) (base + r.cells) (f.link ∷ []) f.cells f.copied → HasFirstCopy p r base args
    by (inl none) = absurd (let e = ap length (copies_are p r base args f ∙ none) in omega (arith, e, l))
    by (inr c) = record {
      place = c.place;
      token = c.token;
      inside = let a = c.inside in let b = f.parameters in omega (arith, a, b);
      piece = c.piece;
      named = c.named;
      address = subst (λ xs. slice_get xs c.place ≡ Some (Value.Place (base + r.cells))) (sym f.is)
          (get_before (f.link ∷ f.cells) f.copied c.place (Value.Place (base + r.cells)) c.address);
    }

pub copies_begin : (p : ProgramRows) (input : List ℕ) (budget : ℕ) (r : Result State Call) → run p input budget ≡ Some r → (number : ℕ) (c : Call)
    → slice_get (calls_in r) number ≡ Some c → LaidOut p → (q : Routine) → routine_at p c.routine ≡ Some q → 0 < length (copies_in q c.args)
    → HasFirstCopy p q c.base c.args
copies_begin p input budget r e number c h L q f l = has_copy p L q c.base c.args (parameters_filled p input budget r e number c h L q f) l
