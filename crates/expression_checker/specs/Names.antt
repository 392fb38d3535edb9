-- What a name stands for in an expression.
use Rattle.std.specs.Prelude.{if◌then◌else◌, ◌-◌, ℕ, Bool, None, Option, Some, false, length, suc, true, zero}
use Rattle.core_program.specs.declared.rows.{Mode.Mode, NameRow.NameRow, PartRow.PartRow, Row.Row, TypeRow.TypeRow}
use Rattle.core_program.specs.declared.rows.AccessRow.{AccessRow}
use Rattle.check_steps.specs.{Names.use_again, declared.regions.Found.Found}
use Rattle.check_steps.specs.Known.{Known, frame_at, row_at, type_at}
use Rattle.check_steps.specs.Steps.{◌>>=◌, Step, give, late, look, put}
use Rattle.kind_checker.specs.Conformable.{is_conformant}
use Rattle.kind_checker.specs.declared.{constants.ConstantValue.ConstantValue, shapes.ExpressionType.ExpressionType}
use Rattle.expression_checker.specs.Typed.{unknown_at}
use Rattle.expression_checker.specs.declared.{names.Meaning.Meaning, typed.Location.Location, typed.Typed.Typed}

-- ---- variables

-- how many links lead from a frame to that of what is declared at a level
abbrev pub levels_to : Known → ℕ → ℕ → ℕ
levels_to k frame level = (frame_at k frame).level - level

-- the access of a variable or a parameter by its name; of a conformant one the bounds are found too
abbrev pub variable_row : (conformant : Bool) → Mode → ℕ → ℕ → ℕ → AccessRow
variable_row true m place levels of' = AccessRow.Conformant place levels of'
variable_row false Mode.Place place levels of' = AccessRow.Reference place levels of'
variable_row false m place levels of' = AccessRow.Variable place levels of'

-- ---- fields of the records of with statements

-- what holds a variant, or a variant part
abbrev pub holder_in : Row → Option ℕ
holder_in (Row.Part (PartRow.Variant variants position)) = Some variants
holder_in (Row.Part (PartRow.Variants hidden offset cells values holder)) = Some holder
holder_in r = None

abbrev pub is_packed_record : Row → Bool
is_packed_record (Row.Type (TypeRow.Record packed region cells variants)) = packed
is_packed_record r = false

abbrev pub packed_or : Option ℕ → Bool → (ℕ → Bool) → Bool
packed_or None packed outward = packed
packed_or (Some holder) packed outward = outward holder

abbrev pub is_packed_from : ℕ → Known → ℕ → Bool
is_packed_from zero k at = false
is_packed_from (suc n) k at = packed_or (holder_in (row_at k at)) (is_packed_record (row_at k at)) (is_packed_from n k)

-- Whether a holder of fields is a packed record, or a variant in one. No variant lies deeper than there are tokens.
abbrev pub is_packed : Known → ℕ → Bool
is_packed k holder = is_packed_from (length k.words) k holder

abbrev pub component_if : Bool → Location
component_if within = if within then Location.Component else Location.Variable

-- the position of a frame's with statement among those around
abbrev pub with_position : Known → ℕ → ℕ
with_position k frame = (frame_at k frame).withs - 1

-- ---- names

-- a field, or a tag, of the record of a with statement
abbrev pub field_meaning : Known → Found → ℕ → Location → Meaning
field_meaning k f of' l =
    Meaning.Variable (AccessRow.Within (with_position k f.frame) f.definition.token of') of' l

-- a variable or parameter of a mode and a type, at a place of the frame to which so many links lead
abbrev pub variable_meaning : Known → Mode → (of' place levels : ℕ) → Meaning
variable_meaning k m of' place levels =
    Meaning.Variable (variable_row (is_conformant (type_at k of')) m place levels of') of' Location.Variable

-- what a name stands for by its row, seen from a frame
abbrev pub meaning_in : Known → ℕ → Found → Row → Meaning
meaning_in k frame f (Row.Name (NameRow.Constant of' v)) = Meaning.Constant (Some (ConstantValue.Ordinal of' v))
meaning_in k frame f (Row.Name (NameRow.Text token)) = Meaning.Constant (Some (ConstantValue.Text token))
meaning_in k frame f Row.Nothing = Meaning.Constant None
meaning_in k frame f (Row.Name (NameRow.Variable m of' place level)) =
    variable_meaning k m of' place (levels_to k frame level)
meaning_in k frame f (Row.Name (NameRow.Bound of' place level)) =
    Meaning.Bound (AccessRow.Variable place (levels_to k frame level) of') of'
meaning_in k frame f (Row.Name (NameRow.Field of' offset holder)) =
    field_meaning k f of' (component_if (is_packed k holder))
meaning_in k frame f (Row.Name (NameRow.Tag of' offset holder variants)) = field_meaning k f of' Location.Component
meaning_in k frame f r = Meaning.Other

abbrev pub meaning_of : Known → ℕ → Option Found → Meaning
meaning_of k frame None = Meaning.Unknown
meaning_of k frame (Some f) = meaning_in k frame f (row_at k f.definition.token)

-- A name of unknown meaning breaks no further rule.
abbrev pub is_variable : Meaning → Bool
is_variable Meaning.Unknown = true
is_variable (Meaning.Variable r of' l) = true
is_variable m = false

-- an access by a name alone
abbrev pub accessed_as : ℕ → Meaning → Step Typed
accessed_as name (Meaning.Variable r of' l) = do
  _ ← put name (Row.Access r)
  give (record { row = name; of = ExpressionType.Of of'; location = l })
accessed_as name m = give (unknown_at name)

-- a bound alone, which is a value and no variable
unfoldable pub bound_at : ℕ → AccessRow → ℕ → Step Typed
bound_at name r of' = do
  _ ← put name (Row.Access r)
  give (record { row = name; of = ExpressionType.Of of'; location = Location.Nowhere })

-- rule 3: the name stands for another kind of thing than a variable, a parameter or a field
unfoldable pub variable : ℕ → ℕ → Step Typed
variable frame name = do
  found ← use_again frame name
  m ← look (λ k. meaning_of k frame found)
  _ ← late 3 name (is_variable m)
  accessed_as name m
