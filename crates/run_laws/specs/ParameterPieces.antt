-- What the cells of a routine's parameters hold, by its heading (6.6.3).
use Rattle.std.specs.Prelude.{◌++◌, ◌+◌, ◌∷◌, [], ℕ, Bool, List, None, Option, Some, false, length, min, replicate, suc}
use Rattle.std.specs.Prelude.{true, zero}
use Rattle.core_program.specs.{Conformant.Dimensions, Conformant.dimensions_of, WholeTables.is_conformant}
use Rattle.core_program.specs.Headings.{section_at, signature_at, variable_type}
use Rattle.core_program.specs.ProgramRows.{ProgramRows, row_at, size_of}
use Rattle.core_program.specs.declared.headings.{FormalSection.FormalSection, Signature.Signature}
use Rattle.core_program.specs.declared.rows.{ItemRow.ItemRow, Mode.Mode, PartRow.PartRow, Row.Row}

pub data ParameterPiece : Type 0 where
  -- the cells of a value parameter
  OfValue : (cells : ℕ) → ParameterPiece
  -- the bounds of a section of conformant parameters, two for each spec of its schema
  OfBounds : (specs : ℕ) → ParameterPiece
  -- the address of the variable that a variable parameter stands for, which has this many cells
  OfVariable : (cells : ℕ) → ParameterPiece
  -- the address of the array that a conformant variable parameter stands for
  OfArray : ParameterPiece
  -- the address of the copy of an array that is passed by value
  OfCopy : ParameterPiece
  -- a procedure or function
  OfRoutine : ParameterPiece

-- the cells of a piece
abbrev pub piece_cells : ParameterPiece → ℕ
piece_cells (OfValue cells) = cells
piece_cells (OfBounds specs) = specs + specs
piece_cells q = 1

abbrev pub pieces_cells : List ParameterPiece → ℕ
pieces_cells [] = 0
pieces_cells (q ∷ qs) = piece_cells q + pieces_cells qs

-- ---- sections

-- how many specs a schema has; what is no conformant array has none
abbrev pub specs_in : Option Dimensions → ℕ
specs_in None = 0
specs_in (Some d) = length d.specs

abbrev pub specs_of : ProgramRows → (of' : ℕ) → ℕ
specs_of p of' = specs_in (dimensions_of p of')

-- what a parameter of a mode has in a frame, whose type has this many cells
abbrev pub name_piece : Mode → (conformant : Bool) → (cells : ℕ) → ParameterPiece
name_piece Mode.Copy conformant cells = OfCopy
name_piece Mode.Place true cells = OfArray
name_piece Mode.Place false cells = OfVariable cells
name_piece m conformant cells = OfValue cells

-- bounds come before the first name of a section
abbrev pub bounds_before : (conformant : Bool) → (specs : ℕ) → List ParameterPiece → List ParameterPiece
bounds_before true specs qs = OfBounds specs ∷ qs
bounds_before false specs qs = qs

abbrev pub section_pieces : ProgramRows → FormalSection → List ParameterPiece
section_pieces p (FormalSection.Names m of' count) = bounds_before (is_conformant p of') (specs_of p of')
    (replicate count (name_piece m (is_conformant p of') (size_of p of')))
section_pieces p (FormalSection.Heading heading) = OfRoutine ∷ []

abbrev pub and_further : ProgramRows → (ℕ → List ParameterPiece) → Option (FormalSection × ℕ) → List ParameterPiece
and_further p rest None = []
and_further p rest (Some s) = section_pieces p s.0 ++ rest s.1

-- those of the sections from one on, of which at most this many are gone through
abbrev pub sections_pieces : ℕ → ProgramRows → (at : ℕ) → List ParameterPiece
sections_pieces zero p at = []
sections_pieces (suc n) p at = and_further p (sections_pieces n p) (section_at p at)

abbrev pub signature_pieces : ProgramRows → Option Signature → List ParameterPiece
signature_pieces p None = []
signature_pieces p (Some s) = sections_pieces (length p.rows) p s.sections

-- The parameters of a heading, in order. No list has more sections than there are rows.
abbrev pub heading_pieces : ProgramRows → (heading : ℕ) → List ParameterPiece
heading_pieces p heading = signature_pieces p (signature_at p heading)

-- ---- tokens

-- the name after the next comma; numbers of tokens end with the last of 32 bits
abbrev pub name_after : (token : ℕ) → ℕ
name_after token = min (token + 2) 4294967295

abbrev pub names_from : (count token : ℕ) → List ℕ
names_from zero token = []
names_from (suc n) token = token ∷ names_from n (name_after token)

abbrev pub schema_before : (conformant : Bool) → (of' : ℕ) → List ℕ → List ℕ
schema_before true of' ts = of' ∷ ts
schema_before false of' ts = ts

abbrev pub names_in : ProgramRows → (first count of' : ℕ) → List ℕ
names_in p first count of' = schema_before (is_conformant p of') of' (names_from count first)

abbrev pub heading_name : Row → List ℕ
heading_name (Row.Part (PartRow.Heading name sections result)) = name ∷ []
heading_name r = []

-- The tokens of the pieces of a section: of a parameter its name, and of bounds the one of the schema.
abbrev pub section_tokens : ProgramRows → Row → List ℕ
section_tokens p (Row.Item (ItemRow.Section m first count next)) =
    names_in p first count (variable_type (row_at p first) first)
section_tokens p (Row.Item (ItemRow.RoutineSection heading next)) = heading_name (row_at p heading)
section_tokens p r = []

abbrev pub and_more : ProgramRows → (at : ℕ) → (ℕ → List ℕ) → Option (FormalSection × ℕ) → List ℕ
and_more p at rest None = []
and_more p at rest (Some s) = section_tokens p (row_at p at) ++ rest s.1

abbrev pub sections_tokens : ℕ → ProgramRows → (at : ℕ) → List ℕ
sections_tokens zero p at = []
sections_tokens (suc n) p at = and_more p at (sections_tokens n p) (section_at p at)

abbrev pub signature_tokens : ProgramRows → Option Signature → List ℕ
signature_tokens p None = []
signature_tokens p (Some s) = sections_tokens (length p.rows) p s.sections

-- the tokens of the parameters of a heading, in order
abbrev pub heading_tokens : ProgramRows → (heading : ℕ) → List ℕ
heading_tokens p heading = signature_tokens p (signature_at p heading)
