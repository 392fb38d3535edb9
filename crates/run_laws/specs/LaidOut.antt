-- Tables that are laid out: what the actuals of each call pass is what the parameters of its routine take, these have
-- their places in its frame one after the other, and behind them stand the result and the variables of its block. Whole
-- tables say nothing of that.
use Rattle.std.specs.Prelude.{if◌then◌else◌, ◌&&◌, ◌+◌, ◌<◌, ◌==◌, ◌||◌, ◌∷◌, ◌≡◌, ◌≤◌, [], ℕ, Bool, List, None, Option}
use Rattle.std.specs.Prelude.{Some, false, length, min, nat_le, suc, true, zero}
use Rattle.core_program.specs.{Headings.heading_in, WholeTables.is_conformant, WholeTables.type_accessed}
use Rattle.core_program.specs.Conformant.{Dimensions, dimensions_of, fixed_extents, inner_extents}
use Rattle.core_program.specs.ProgramRows.{ProgramRows, routine_at, row_at, size_of, text_at, type_at}
use Rattle.core_program.specs.declared.{components.HeldSpec.HeldSpec, program.Routine.Routine}
use Rattle.core_program.specs.declared.rows.{ExpressionRow.ExpressionRow, ItemRow.ItemRow, Mode.Mode, NameRow.NameRow}
use Rattle.core_program.specs.declared.rows.{PartRow.PartRow, Row.Row, StatementRow.StatementRow, TypeRow.TypeRow}
use Rattle.run_laws.specs.ParameterPieces.{OfArray, OfBounds, OfCopy, OfRoutine, OfValue, OfVariable, ParameterPiece}
use Rattle.run_laws.specs.ParameterPieces.{bounds_before, heading_pieces, heading_tokens, piece_cells, pieces_cells}
use Rattle.run_laws.specs.ParameterPieces.{specs_of}

-- ---- values and arrays as actuals

abbrev pub unless_conformant : Bool → (cells : ℕ) → Option ℕ
unless_conformant true cells = None
unless_conformant false cells = Some cells

-- how many cells the value of an expression has; of a conformant array only the bounds say so
abbrev pub cells_given : ProgramRows → Row → Option ℕ
cells_given p (Row.Expression (ExpressionRow.Text token)) = Some (length (text_at p token))
cells_given p (Row.Expression e) = Some 1
cells_given p (Row.Access a) = unless_conformant (is_conformant p (type_accessed a)) (size_of p (type_accessed a))
cells_given p r = None

-- the cells of the variable that an access denotes
abbrev pub cells_accessed : ProgramRows → Row → ℕ
cells_accessed p (Row.Access a) = size_of p (type_accessed a)
cells_accessed p r = 0

-- how many extents a conformant array of these dimensions has for the specs of a schema: those of its own specs, and of
-- the fixed arrays that are its components
abbrev pub extents_held : ProgramRows → List HeldSpec → Option Dimensions → ℕ
extents_held p specs None = 0
extents_held p specs (Some d) = length d.specs + length (inner_extents p d specs)

abbrev pub extents_of : ProgramRows → List HeldSpec → (of' : ℕ) → (conformant : Bool) → ℕ
extents_of p specs of' true = extents_held p specs (dimensions_of p of')
extents_of p specs of' false = length (fixed_extents p specs (type_at p of'))

-- the same of an array that is passed; a string has one
abbrev pub extents_given : ProgramRows → List HeldSpec → Row → ℕ
extents_given p specs (Row.Access a) = extents_of p specs (type_accessed a) (is_conformant p (type_accessed a))
extents_given p specs r = 1

-- an array that is passed first in a section has as many extents as the schema has specs
abbrev pub FitsSchema : ProgramRows → (of' : ℕ) → Row → Type 0
FitsSchema p of' r = (d : Dimensions) → dimensions_of p of' ≡ Some d → extents_given p d.specs r ≡ length d.specs

-- ---- actuals

-- What an actual passes comes before what those after it pass. One by value has the cells of its parameter's type.
abbrev pub ActualPasses : ProgramRows → (passes : ℕ → List ParameterPiece) → (at : ℕ) → Row → Type 0
ActualPasses p passes at (Row.Item (ItemRow.Value v of' next)) =
    (passes at ≡ OfValue (size_of p of') ∷ passes next) × (cells_given p (row_at p v) ≡ Some (size_of p of'))
ActualPasses p passes at (Row.Item (ItemRow.Place a next)) =
    passes at ≡ OfVariable (cells_accessed p (row_at p a)) ∷ passes next
ActualPasses p passes at (Row.Item (ItemRow.ArrayPlace first a of' next)) =
    (passes at ≡ bounds_before first (specs_of p of') (OfArray ∷ passes next))
    × (first ≡ true → FitsSchema p of' (row_at p a))
ActualPasses p passes at (Row.Item (ItemRow.ArrayValue first v of' next)) =
    (passes at ≡ bounds_before first (specs_of p of') (OfCopy ∷ passes next))
    × (first ≡ true → FitsSchema p of' (row_at p v))
ActualPasses p passes at (Row.Item (ItemRow.Routine routine levels next)) = passes at ≡ OfRoutine ∷ passes next
ActualPasses p passes at (Row.Item (ItemRow.RoutineFormal formal levels next)) = passes at ≡ OfRoutine ∷ passes next
ActualPasses p passes at r = Unit {0}

-- ---- calls

-- the actuals of a call of a routine pass what its parameters take
abbrev pub RoutineTakes : ProgramRows → List ParameterPiece → (routine : ℕ) → Type 0
RoutineTakes p passed routine = (r : Routine) → routine_at p routine ≡ Some r → passed ≡ heading_pieces p r.heading

-- and those of a call of a routine parameter what its heading says
abbrev pub FormalTakes : ProgramRows → List ParameterPiece → (formal : ℕ) → Type 0
FormalTakes p passed formal = (heading : ℕ) → heading_in (row_at p formal) ≡ Some heading
    → passed ≡ heading_pieces p heading

abbrev pub CallPasses : ProgramRows → (passes : ℕ → List ParameterPiece) → Row → Type 0
CallPasses p passes (Row.Statement (StatementRow.Call line routine levels actuals)) =
    RoutineTakes p (passes actuals) routine
CallPasses p passes (Row.Statement (StatementRow.CallFormal line formal levels actuals)) =
    FormalTakes p (passes actuals) formal
CallPasses p passes (Row.Expression (ExpressionRow.Apply routine levels actuals)) =
    RoutineTakes p (passes actuals) routine
CallPasses p passes (Row.Expression (ExpressionRow.ApplyFormal formal levels actuals)) =
    FormalTakes p (passes actuals) formal
CallPasses p passes r = Unit {0}

-- ---- headings

-- the greatest size of a frame that is counted, and the greatest place in one; it stands for larger ones, too
abbrev pub most_cells : ℕ
most_cells = 524289

abbrev pub IsBoundAt : (place : ℕ) → Row → Type 0
IsBoundAt place (Row.Name (NameRow.Bound of' at level)) = at ≡ min place most_cells
IsBoundAt place r = ⊥

-- The schema of a type has this many specs. The bounds of each have two places, and their names stand after its `[` or
-- semicolon with `..` between them.
abbrev pub SpecStands : ProgramRows → (rest : (of' place : ℕ) → Type 0) → (of' place : ℕ) → Option TypeRow → Type 0
SpecStands p rest of' place (Some (TypeRow.Conformant packed index component at)) = (at ≡ min place most_cells)
    × IsBoundAt place (row_at p (of' + 1)) × IsBoundAt (place + 1) (row_at p (of' + 3)) × rest component (place + 2)
SpecStands p rest of' place t = ⊥

abbrev pub SpecsStand : ProgramRows → (specs : ℕ) → (of' place : ℕ) → Type 0
SpecsStand p zero of' place = Unit {0}
SpecsStand p (suc n) of' place = SpecStands p (SpecsStand p n) of' place (type_at p of')

abbrev pub IsVariableAt : Mode → (place : ℕ) → Row → Type 0
IsVariableAt m place (Row.Name (NameRow.Variable mode of' at level)) = (mode ≡ m) × (at ≡ min place most_cells)
IsVariableAt m place r = ⊥

abbrev pub IsRoutineAt : (place : ℕ) → Row → Type 0
IsRoutineAt place (Row.Name (NameRow.RoutineFormal at level heading)) = at ≡ min place most_cells
IsRoutineAt place r = ⊥

-- what is named by a token has its place, of the mode that this piece is for
abbrev pub StandsAt : ProgramRows → (token place : ℕ) → ParameterPiece → Type 0
StandsAt p token place (OfValue cells) = IsVariableAt Mode.Value place (row_at p token)
StandsAt p token place (OfBounds specs) = SpecsStand p specs token place
StandsAt p token place (OfVariable cells) = IsVariableAt Mode.Place place (row_at p token)
StandsAt p token place OfArray = IsVariableAt Mode.Place place (row_at p token)
StandsAt p token place OfCopy = IsVariableAt Mode.Copy place (row_at p token)
StandsAt p token place OfRoutine = IsRoutineAt place (row_at p token)

-- each piece has its token, and stands where the one before it ends
abbrev pub AllStand : ProgramRows → (place : ℕ) → (tokens : List ℕ) → List ParameterPiece → Type 0
AllStand p place [] [] = Unit {0}
AllStand p place (t ∷ ts) (q ∷ qs) = StandsAt p t place q × AllStand p (place + piece_cells q) ts qs
AllStand p place ts qs = ⊥

-- ---- routines

-- The parameters of a routine have the cells after the link. The frame has them all.
pub record RoutineHolds (p : ProgramRows) (r : Routine) : Type 0 where
  pub parameters : r.parameters ≡ min (1 + pieces_cells (heading_pieces p r.heading)) most_cells
  pub inside : r.parameters ≤ r.cells

-- ---- blocks

-- whether a routine is named by this row in a heading: in its first one, or in the one that completes that
abbrev pub is_name_of : Row → (number name : ℕ) → Bool
is_name_of (Row.Name (NameRow.Routine assigned n region)) number name = n == number
is_name_of (Row.Part (PartRow.Completing first)) number name = first == name
is_name_of r number name = false

-- a variable of a block with this many others around has its place behind the parameters
abbrev pub is_behind : (level parameters : ℕ) → Row → Bool
is_behind level parameters (Row.Name (NameRow.Variable Mode.Own of' place l)) =
    if l == level then nat_le parameters place else true
is_behind level parameters r = true

-- a variable of such a block has this place
abbrev pub has_place : (level place : ℕ) → Row → Bool
has_place level place (Row.Name (NameRow.Variable Mode.Own of' at l)) = if l == level then at == place else false
has_place level place r = false

-- So it is with each variable of a routine's block before a token. The block begins where the routine is named last.
abbrev pub all_behind : ProgramRows → (number : ℕ) → Routine → (before : ℕ) → Bool
all_behind p number r zero = true
all_behind p number r (suc token) = if is_name_of (row_at p token) number r.name then true
    else is_behind r.level r.parameters (row_at p token) && all_behind p number r token

-- and one of them has this place
abbrev pub some_has : ProgramRows → (number : ℕ) → Routine → (place before : ℕ) → Bool
some_has p number r place zero = false
some_has p number r place (suc token) = if is_name_of (row_at p token) number r.name then false
    else has_place r.level place (row_at p token) || some_has p number r place token

abbrev pub after_result : (result : Option ℕ) → (parameters : ℕ) → ℕ
after_result None parameters = parameters
after_result (Some place) parameters = parameters + 1

-- Behind the parameters stands the result of a function, and then the first variable of the block, if there is one with
-- cells.
pub record BlockStands (p : ProgramRows) (number : ℕ) (r : Routine) : Type 0 where
  pub result : (place : ℕ) → r.result ≡ Some place → place ≡ r.parameters
  pub behind : all_behind p number r r.statements ≡ true
  pub first : after_result r.result r.parameters < r.cells
      → some_has p number r (after_result r.result r.parameters) r.statements ≡ true

-- ---- tokens

-- more tokens than this no source has: each has a byte
abbrev pub most_tokens : ℕ
most_tokens = 1048576

-- items of lists and the names of bounds stand at tokens
abbrev pub is_at_token : Row → Bool
is_at_token (Row.Item i) = true
is_at_token (Row.Name (NameRow.Bound of' place level)) = true
is_at_token r = false

-- ---- tables that are laid out

pub record LaidOut (p : ProgramRows) : Type 0 where
  -- what the actuals from each item of their list on pass, and nothing where the list ends
  pub passes : ℕ → List ParameterPiece
  pub ends : passes 0 ≡ []
  pub actuals : (at : ℕ) → ActualPasses p passes at (row_at p at)
  pub calls : (at : ℕ) → CallPasses p passes (row_at p at)
  -- the parameters of each heading stand one after the other, behind the link
  pub headings : (heading : ℕ) → AllStand p 1 (heading_tokens p heading) (heading_pieces p heading)
  pub routines : (number : ℕ) (r : Routine) → routine_at p number ≡ Some r → RoutineHolds p r
  pub blocks : (number : ℕ) (r : Routine) → routine_at p number ≡ Some r → BlockStands p number r
  pub tokens : (at : ℕ) → is_at_token (row_at p at) ≡ true → at < most_tokens
  -- the program block takes nothing
  pub main : (r : Routine) → routine_at p 0 ≡ Some r → heading_pieces p r.heading ≡ []
