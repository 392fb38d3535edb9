-- What is passed fills parameters, once the copies have their places.
use Rattle.std.proofs.Common.{◌++◌, ◌+◌, ◌∙◌, ◌∷◌, ◌≡◌, ◌≤◌, ◌⊎◌, [], ℕ, List, Some, ap, append-nil, append_assoc, arith, inl, inr, length, length-append, min}
use Rattle.std.proofs.{Common.refl, Common.slice_set, Common.subst, Common.sym, Math.Seq.set-append_seam}
use Rattle.cell_value.specs.declared.values.Value.{Value}
use Rattle.core_program.specs.{Conformant.bound_values, ProgramRows.ProgramRows, State.stack_end}
use Rattle.core_program.specs.Passed.{ArrayCopy, Entering, Passed, and_cells, and_copy, args_at, cells_entered, copied, placed}
use Rattle.core_program.specs.declared.{components.Extent.Extent, program.Routine.Routine}
use Rattle.run_laws.specs.{LaidOut.RoutineHolds, LaidOut.most_cells, ParameterLaws.Filled, ParameterLaws.FillsParameters}
use Rattle.run_laws.specs.ParameterLaws as fills
use Rattle.run_laws.specs.ParameterPieces.{OfArray, OfBounds, OfCopy, OfRoutine, OfValue, OfVariable, ParameterPiece, heading_pieces, pieces_cells}

abbrev pub a_copy : (at : ℕ) → List Value → ArrayCopy
a_copy at vs = record { at = at; cells = vs }

-- The cells of parameters from a number on, and the copies, which have no places so far.
pub data Sketched : List ParameterPiece → (from : ℕ) → List Value → List ArrayCopy → Type 0 where
  Full : {from : ℕ} → Sketched [] from [] []
  ByValue : {qs : List ParameterPiece} {from : ℕ} {cells : List Value} {copies : List ArrayCopy} → (vs : List Value)
      → Sketched qs (from + length vs) cells copies
      → Sketched (OfValue (length vs) ∷ qs) from (vs ++ cells) copies
  WithBounds : {qs : List ParameterPiece} {from : ℕ} {cells : List Value} {copies : List ArrayCopy} → (es : List Extent)
      → Sketched qs (from + length (bound_values es)) cells copies → Sketched (OfBounds (length es) ∷ qs) from (bound_values es ++ cells) copies
  ByAddress : {qs : List ParameterPiece} {from size address : ℕ} {cells : List Value} {copies : List ArrayCopy} → Sketched qs (from + 1) cells copies
      → Sketched (OfVariable size ∷ qs) from (Value.Place address ∷ cells) copies
  ArrayByAddress : {qs : List ParameterPiece} {from address : ℕ} {cells : List Value} {copies : List ArrayCopy} → Sketched qs (from + 1) cells copies
      → Sketched (OfArray ∷ qs) from (Value.Place address ∷ cells) copies
  ByCopy : {qs : List ParameterPiece} {from : ℕ} {cells : List Value} {copies : List ArrayCopy} → (vs : List Value) → Sketched qs (from + 1) cells copies
      → Sketched (OfCopy ∷ qs) from (Value.Undefined ∷ cells) (a_copy from vs ∷ copies)
  WithRoutine : {qs : List ParameterPiece} {from routine frame : ℕ} {cells : List Value} {copies : List ArrayCopy} → Sketched qs (from + 1) cells copies
      → Sketched (OfRoutine ∷ qs) from (Value.Routine routine frame ∷ cells) copies

-- ---- how many cells there are

pub bounds_cells : (es : List Extent) → length (bound_values es) ≡ length es + length es
bounds_cells [] = refl
bounds_cells (e ∷ es) = let h = bounds_cells es in omega (arith, h)

sketched_cells : {qs : List ParameterPiece} {from : ℕ} {cells : List Value} {copies : List ArrayCopy} → Sketched qs from cells copies
    → length cells ≡ pieces_cells qs
sketched_cells Full = refl
sketched_cells (ByValue {cells = cells} vs s) = length-append vs cells ∙ ap (λ n. length vs + n) (sketched_cells s)
sketched_cells (WithBounds {cells = cells} es s) =
    let a = length-append (bound_values es) cells in
    let b = bounds_cells es in
    let h = sketched_cells s in
    omega (arith, a, b, h)
sketched_cells (ByAddress s) = let h = sketched_cells s in omega (arith, h)
sketched_cells (ArrayByAddress s) = let h = sketched_cells s in omega (arith, h)
sketched_cells (ByCopy vs s) = let h = sketched_cells s in omega (arith, h)
sketched_cells (WithRoutine s) = let h = sketched_cells s in omega (arith, h)

-- ---- copies get their places

-- cells that stand behind others, once the copies have their places from an address on
record Placing (qs : List ParameterPiece) (address : ℕ) (front cells : List Value) (copies : List ArrayCopy) : Type 0 where
  to : List Value
  is : placed address copies (front ++ cells) ≡ front ++ to
  filled : Filled qs address to (copied copies)
  many : length to ≡ length cells

-- a list is followed by one cell more, or by several
one_on : (front : List Value) (v : Value) (cells : List Value) → front ++ v ∷ cells ≡ (front ++ v ∷ []) ++ cells
one_on front v cells = sym (append_assoc front (v ∷ []) cells)

length_on : (front : List Value) (v : Value) (from : ℕ) → length front ≡ from → length (front ++ v ∷ []) ≡ from + 1
length_on front v from e = length-append front (v ∷ []) ∙ ap (λ n. n + 1) e

length_over : (front vs : List Value) (from : ℕ) → length front ≡ from → length (front ++ vs) ≡ from + length vs
length_over front vs from e = length-append front vs ∙ ap (λ n. n + length vs) e

module _ (address : ℕ) (front : List Value) where
  -- a cell that stays as it is
  stays : {q : ParameterPiece} {qs : List ParameterPiece} {cells : List Value} {copies : List ArrayCopy} (v : Value)
      → ((to : List Value) → Filled qs address to (copied copies) → Filled (q ∷ qs) address (v ∷ to) (copied copies))
      → Placing qs address (front ++ v ∷ []) cells copies → Placing (q ∷ qs) address front (v ∷ cells) copies
  stays {cells = cells} {copies = copies} v f k = record {
    to = v ∷ k.to;
    is = ap (placed address copies) (one_on front v cells) ∙ k.is ∙ sym (one_on front v k.to);
    filled = f k.to k.filled;
    many = let h = k.many in omega (arith, h);
  }

  stay : {q : ParameterPiece} {qs : List ParameterPiece} {cells : List Value} {copies : List ArrayCopy} (vs : List Value)
      → ((to : List Value) → Filled qs address to (copied copies) → Filled (q ∷ qs) address (vs ++ to) (copied copies))
      → Placing qs address (front ++ vs) cells copies → Placing (q ∷ qs) address front (vs ++ cells) copies
  stay {cells = cells} {copies = copies} vs f k = record {
    to = vs ++ k.to;
    is = ap (placed address copies) (sym (append_assoc front vs cells)) ∙ k.is ∙ append_assoc front vs k.to;
    filled = f k.to k.filled;
    many = length-append vs k.to ∙ ap (λ n. length vs + n) k.many ∙ sym (length-append vs cells);
  }

  -- one that gets the address of its copy
  gets : {qs : List ParameterPiece} {cells : List Value} {copies : List ArrayCopy} (from : ℕ) (vs : List Value) → length front ≡ from
      → Placing qs (address + length vs) (front ++ Value.Place address ∷ []) cells copies
      → Placing (OfCopy ∷ qs) address front (Value.Undefined ∷ cells) (a_copy from vs ∷ copies)
  gets {cells = cells} {copies = copies} from vs e k = record {
    to = Value.Place address ∷ k.to;
    is = ap (placed (address + length vs) copies) (subst (λ n. slice_set (front ++ Value.Undefined ∷ cells) n (Value.Place address)
        ≡ front ++ Value.Place address ∷ cells) e (set-append_seam front Value.Undefined cells (Value.Place address))
        ∙ one_on front (Value.Place address) cells)
        ∙ k.is ∙ sym (one_on front (Value.Place address) k.to);
    filled = fills.ByCopy vs k.filled;
    many = let h = k.many in omega (arith, h);
  }

places : {qs : List ParameterPiece} {from : ℕ} {cells : List Value} {copies : List ArrayCopy} → Sketched qs from cells copies → (address : ℕ)
    (front : List Value) → length front ≡ from → Placing qs address front cells copies
places Full address front e = record { to = []; is = refl; filled = fills.Full; many = refl }
places (ByValue {from = from} vs s) address front e =
    stay address front vs (λ to f. fills.ByValue vs f) (places s address (front ++ vs) (length_over front vs from e))
places (WithBounds {from = from} es s) address front e = stay address front (bound_values es) (λ to f. fills.WithBounds es f)
    (places s address (front ++ bound_values es) (length_over front (bound_values es) from e))
places (ByAddress {from = from} {address = a} s) address front e =
    stays address front (Value.Place a) (λ to f. fills.ByAddress f) (places s address (front ++ Value.Place a ∷ []) (length_on front (Value.Place a) from e))
places (ArrayByAddress {from = from} {address = a} s) address front e = stays address front (Value.Place a) (λ to f. fills.ArrayByAddress f)
    (places s address (front ++ Value.Place a ∷ []) (length_on front (Value.Place a) from e))
places (ByCopy {from = from} vs s) address front e = gets address front from vs e
    (places s (address + length vs) (front ++ Value.Place address ∷ []) (length_on front (Value.Place address) from e))
places (WithRoutine {from = from} {routine = r} {frame = f} s) address front e = stays address front (Value.Routine r f) (λ to f. fills.WithRoutine f)
    (places s address (front ++ Value.Routine r f ∷ []) (length_on front (Value.Routine r f) from e))

-- ---- a routine that is entered with what is passed
-- ---- a routine that is entered with what is passed

-- the cells that the routine counts, where its frame fits into the stack
parameters_count : (p : ProgramRows) (r : Routine) → RoutineHolds p r → (cells : List Value) → length cells ≡ pieces_cells (heading_pieces p r.heading)
    → r.cells ≤ stack_end → r.parameters ≡ 1 + length cells
parameters_count p r h cells e l =
    let a = h.parameters in
    let b = h.inside in
    let c : r.parameters ≤ 524288 = omega (arith, b, l) in
    let d : min (1 + pieces_cells (heading_pieces p r.heading)) 524289 ≡ r.parameters = sym a in
    omega (arith, c, d, e)

pub entered : (p : ProgramRows) (r : Routine) → RoutineHolds p r → (e : Entering) → e.cells ≡ r.cells
    → Sketched (heading_pieces p r.heading) 0 e.passed.cells e.passed.copies → (base : ℕ) → base + cells_entered e ≤ stack_end
    → FillsParameters p r base (args_at e base)
entered p r h e same s base l =
    let k = places s (base + e.cells) [] refl in
    record {
      link = e.link;
      cells = k.to;
      copied = copied e.passed.copies;
      is = ap (λ vs. e.link ∷ vs ++ copied e.passed.copies) k.is;
      parameters = parameters_count p r h k.to (k.many ∙ sketched_cells s) (omega (arith, l, same));
      filled = subst (λ n. Filled (heading_pieces p r.heading) (base + n) k.to (copied e.passed.copies)) same k.filled;
    }

-- the program block takes nothing, and is entered by a frame of no cells
pub block_entered : (p : ProgramRows) (r : Routine) → RoutineHolds p r → heading_pieces p r.heading ≡ [] → (link : Value) (base : ℕ)
    → FillsParameters p r base (link ∷ [])
block_entered p r h e link base = record {
  link = link;
  cells = [];
  copied = [];
  is = refl;
  parameters = h.parameters ∙ ap (λ qs. min (1 + pieces_cells qs) most_cells) e;
  filled = subst (λ qs. Filled qs (base + r.cells) [] []) (sym e) fills.Full;
}

-- ---- what is passed grows

-- what is passed then is what was passed before and what these take
pub record Grown (qs : List ParameterPiece) (old new : Passed) : Type 0 where
  pub cells : List Value
  pub copies : List ArrayCopy
  pub more_cells : new.cells ≡ old.cells ++ cells
  pub more_copies : new.copies ≡ old.copies ++ copies
  pub sketched : Sketched qs (length old.cells) cells copies

pub not_grown : (old : Passed) → Grown [] old old
not_grown old = record { cells = []; copies = []; more_cells = sym (append-nil old.cells); more_copies = sym (append-nil old.copies); sketched = Full }

module _ {qs : List ParameterPiece} {old new : Passed} where
  grown_by : {q : ParameterPiece} (vs : List Value)
      → ((cells : List Value) (copies : List ArrayCopy) → Sketched qs (length old.cells + length vs) cells copies
      → Sketched (q ∷ qs) (length old.cells) (vs ++ cells) copies)
      → Grown qs (and_cells old vs) new → Grown (q ∷ qs) old new
  grown_by vs f g = record {
    cells = vs ++ g.cells;
    copies = g.copies;
    more_cells = g.more_cells ∙ append_assoc old.cells vs g.cells;
    more_copies = g.more_copies;
    sketched = f g.cells g.copies (subst (λ n. Sketched qs n g.cells g.copies) (length-append old.cells vs) g.sketched);
  }

  pub by_value : (n : ℕ) (vs : List Value) → length vs ≡ n → Grown qs (and_cells old vs) new → Grown (OfValue n ∷ qs) old new
  by_value n vs e g = subst (λ n. Grown (OfValue n ∷ qs) old new) e (grown_by vs (λ cells copies s. ByValue vs s) g)

  pub by_bounds : (n : ℕ) (es : List Extent) → length es ≡ n → Grown qs (and_cells old (bound_values es)) new → Grown (OfBounds n ∷ qs) old new
  by_bounds n es e g = subst (λ n. Grown (OfBounds n ∷ qs) old new) e (grown_by (bound_values es) (λ cells copies s. WithBounds es s) g)

  pub by_address : (n address : ℕ) → Grown qs (and_cells old (Value.Place address ∷ [])) new → Grown (OfVariable n ∷ qs) old new
  by_address n address g = grown_by (Value.Place address ∷ []) (λ cells copies s. ByAddress s) g

  pub by_array : (address : ℕ) → Grown qs (and_cells old (Value.Place address ∷ [])) new → Grown (OfArray ∷ qs) old new
  by_array address g = grown_by (Value.Place address ∷ []) (λ cells copies s. ArrayByAddress s) g

  pub by_routine : (routine frame : ℕ) → Grown qs (and_cells old (Value.Routine routine frame ∷ [])) new → Grown (OfRoutine ∷ qs) old new
  by_routine routine frame g = grown_by (Value.Routine routine frame ∷ []) (λ cells copies s. WithRoutine s) g

  pub by_copy : (vs : List Value) → Grown qs (and_copy old vs) new → Grown (OfCopy ∷ qs) old new
  by_copy vs g = record {
    cells = Value.Undefined ∷ g.cells;
    copies = a_copy (length old.cells) vs ∷ g.copies;
    more_cells = g.more_cells ∙ append_assoc old.cells (Value.Undefined ∷ []) g.cells;
    more_copies = g.more_copies ∙ append_assoc old.copies (a_copy (length old.cells) vs ∷ []) g.copies;
    sketched = ByCopy vs (subst (λ n. Sketched qs n g.cells g.copies) (length-append old.cells (Value.Undefined ∷ [])) g.sketched);
  }
