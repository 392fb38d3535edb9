-- What calls begin with: the parameters of a routine are filled by the actuals.
use Rattle.std.specs.Prelude.{◌++◌, ◌+◌, ◌<◌, ◌∷◌, ◌≡◌, ◌⊎◌, [], ℕ, List, Some, length, slice_get}
use Rattle.cell_value.specs.declared.values.Value.{Value}
use Rattle.core_program.specs.{Conformant.bound_values, Run.Call, Run.copies_in, RunLaws.OfEachCall}
use Rattle.core_program.specs.ProgramRows.{ProgramRows, routine_at, row_at}
use Rattle.core_program.specs.declared.{components.Extent.Extent, program.Routine.Routine, rows.Mode.Mode}
use Rattle.run_laws.specs.LaidOut.{IsVariableAt, LaidOut}
use Rattle.run_laws.specs.ParameterPieces.{OfArray, OfBounds, OfCopy, OfRoutine, OfValue, OfVariable, ParameterPiece}
use Rattle.run_laws.specs.ParameterPieces.{heading_pieces, heading_tokens, piece_cells}

-- The cells of parameters, piece by piece, and their copies. The copies stand side by side from an address on, and each
-- parameter that is copied has the address of its own.
pub data Filled : List ParameterPiece → (at : ℕ) → (cells copied : List Value) → Type 0 where
  Full : {at : ℕ} → Filled [] at [] []
  ByValue : {qs : List ParameterPiece} {at : ℕ} {cells copied : List Value} → (vs : List Value)
      → Filled qs at cells copied → Filled (OfValue (length vs) ∷ qs) at (vs ++ cells) copied
  WithBounds : {qs : List ParameterPiece} {at : ℕ} {cells copied : List Value} → (es : List Extent)
      → Filled qs at cells copied → Filled (OfBounds (length es) ∷ qs) at (bound_values es ++ cells) copied
  ByAddress : {qs : List ParameterPiece} {at size address : ℕ} {cells copied : List Value} → Filled qs at cells copied
      → Filled (OfVariable size ∷ qs) at (Value.Place address ∷ cells) copied
  ArrayByAddress : {qs : List ParameterPiece} {at address : ℕ} {cells copied : List Value}
      → Filled qs at cells copied → Filled (OfArray ∷ qs) at (Value.Place address ∷ cells) copied
  ByCopy : {qs : List ParameterPiece} {at : ℕ} {cells copied : List Value} → (vs : List Value)
      → Filled qs (at + length vs) cells copied → Filled (OfCopy ∷ qs) at (Value.Place at ∷ cells) (vs ++ copied)
  WithRoutine : {qs : List ParameterPiece} {at routine frame : ℕ} {cells copied : List Value}
      → Filled qs at cells copied → Filled (OfRoutine ∷ qs) at (Value.Routine routine frame ∷ cells) copied

-- The arguments of a call of a routine, whose frame begins at a base: its link, the cells of its parameters, and the
-- copies, which stand in the frame after all other cells.
pub record FillsParameters (p : ProgramRows) (r : Routine) (base : ℕ) (args : List Value) : Type 0 where
  pub link : Value
  pub cells : List Value
  pub copied : List Value
  pub is : args ≡ link ∷ cells ++ copied
  pub parameters : r.parameters ≡ 1 + length cells
  pub filled : Filled (heading_pieces p r.heading) (base + r.cells) cells copied

-- with such each call of each run begins, where the tables are laid out
abbrev pub ActualsFillParameters : Type 0
ActualsFillParameters = OfEachCall (λ p number c below. LaidOut p → (r : Routine)
    → routine_at p c.routine ≡ Some r → FillsParameters p r c.base c.args)

-- ---- where copies begin

-- a piece for a copy begins at a place and has a token, where the first of these pieces begins at another
abbrev pub CopyBegins : (from : ℕ) → (tokens : List ℕ) → List ParameterPiece → (place token : ℕ) → Type 0
CopyBegins from (t ∷ ts) (q ∷ qs) place token =
    ((place ≡ from) × (token ≡ t) × (q ≡ OfCopy)) ⊎ CopyBegins (from + piece_cells q) ts qs place token
CopyBegins from ts qs place token = ⊥

-- A parameter of the routine is a copy, and has the address behind all other cells of the frame. It is named by a
-- token, and its place in the frame is that of its piece; the first parameter stands behind the link.
pub record HasFirstCopy (p : ProgramRows) (r : Routine) (base : ℕ) (args : List Value) : Type 0 where
  pub place : ℕ
  pub token : ℕ
  pub inside : place < r.parameters
  pub piece : CopyBegins 1 (heading_tokens p r.heading) (heading_pieces p r.heading) place token
  pub named : IsVariableAt Mode.Copy place (row_at p token)
  pub address : slice_get args place ≡ Some (Value.Place (base + r.cells))

-- so it is in each call of each run that was given copies, where the tables are laid out
abbrev pub CopiesHaveParameters : Type 0
CopiesHaveParameters = OfEachCall (λ p number c below. LaidOut p → (r : Routine)
    → routine_at p c.routine ≡ Some r → 0 < length (copies_in r c.args) → HasFirstCopy p r c.base c.args)
