-- Selectors, once their parts are checked (6.5.3, 6.5.4).
use Rattle.std.specs.Prelude.{ℕ, Bool, None, Option, Some, false, is_some, true}
use Rattle.core_program.specs.declared.rows.{AccessRow.AccessRow, NameRow.NameRow, Row.Row, TypeRow.TypeRow}
use Rattle.check_steps.specs.{Regions.defined_in, declared.regions.Definition.Definition}
use Rattle.check_steps.specs.Known.{Known, name_at, row_at, type_at}
use Rattle.check_steps.specs.Steps.{◌>>=◌, Step, give, late, look, put}
use Rattle.kind_checker.specs.{Shapes.is_assignable, declared.shapes.ExpressionType.ExpressionType}
use Rattle.expression_checker.specs.{Names.component_if, Typed.unknown_at}
use Rattle.expression_checker.specs.declared.selectors.SelectedField.{SelectedField}
use Rattle.expression_checker.specs.declared.typed.{Location.Location, Typed.Typed}

-- the row of the type of an access, and none where that is unknown
abbrev pub type_row : Known → ExpressionType → Option TypeRow
type_row k (ExpressionType.Of t) = type_at k t
type_row k t = None

abbrev pub type_number : ExpressionType → ℕ
type_number (ExpressionType.Of t) = t
type_number t = 0

-- ---- indices

-- An access of unknown type breaks no further rule.
abbrev pub is_array : Option TypeRow → Bool
is_array None = true
is_array (Some (TypeRow.Array packed index component cells)) = true
is_array (Some (TypeRow.Conformant packed index component place)) = true
is_array (Some t) = false

abbrev pub is_index : Known → Option TypeRow → ExpressionType → Bool
is_index k (Some (TypeRow.Array packed index component cells)) of' = is_assignable k index of'
is_index k (Some (TypeRow.Conformant packed index component place)) of' = is_assignable k index of'
is_index k r of' = true

abbrev pub index_row : Option TypeRow → Typed → Typed → Row
index_row (Some (TypeRow.Array packed index component cells)) p i =
    Row.Access (AccessRow.Index p.row i.row (type_number p.of) component)
index_row (Some (TypeRow.Conformant packed index component place)) p i =
    Row.Access (AccessRow.Component p.row i.row (type_number p.of) component)
index_row r p i = Row.Nothing

-- the component of an array, at its bracket or comma
abbrev pub component_at : Option TypeRow → ℕ → Typed
component_at (Some (TypeRow.Array packed index component cells)) bracket =
    record { row = bracket; of = ExpressionType.Of component; location = component_if packed }
component_at (Some (TypeRow.Conformant packed index component place)) bracket =
    record { row = bracket; of = ExpressionType.Of component; location = component_if packed }
component_at r bracket = unknown_at bracket

-- rule 23: a selector is applied to a type that has no such part, at the `[`, or at the `,` before a surplus index
-- rule 25: an index is not assignment-compatible with the index type or the type of the spec, at its first token
unfoldable pub indexed : Typed → ℕ → ℕ → Typed → Step Typed
indexed p bracket first i = do
  r ← look (λ k. type_row k p.of)
  _ ← late 23 bracket (is_array r)
  fine ← look (λ k. is_index k r i.of)
  _ ← late 25 first fine
  _ ← put bracket (index_row r p i)
  give (component_at r bracket)

-- ---- fields

abbrev pub is_record : Option TypeRow → Bool
is_record None = true
is_record (Some (TypeRow.Record packed region cells variants)) = true
is_record (Some t) = false

-- a field at the token of its definition, of a record that is packed or not
abbrev pub field_of_row : Bool → ℕ → Row → Option SelectedField
field_of_row packed token (Row.Name (NameRow.Field of' offset holder)) =
    Some (record { token = token; of = of'; location = component_if packed })
field_of_row packed token (Row.Name (NameRow.Tag of' offset holder variants)) =
    Some (record { token = token; of = of'; location = Location.Component })
field_of_row packed token r = None

abbrev pub field_defined : Known → Bool → Option Definition → Option SelectedField
field_defined k packed None = None
field_defined k packed (Some d) = field_of_row packed d.token (row_at k d.token)

-- the field of a record type that a token names
abbrev pub field_named : Known → Option TypeRow → ℕ → Option SelectedField
field_named k (Some (TypeRow.Record packed region cells variants)) name =
    field_defined k packed (defined_in k.regions region (name_at k name))
field_named k r name = None

-- Only a record can lack a field.
abbrev pub has_field : Option TypeRow → Option SelectedField → Bool
has_field (Some (TypeRow.Record packed region cells variants)) f = is_some f
has_field r f = true

abbrev pub field_row : Typed → Option SelectedField → Row
field_row p (Some f) = Row.Access (AccessRow.Field p.row f.token f.of)
field_row p None = Row.Nothing

abbrev pub field_access : ℕ → Option SelectedField → Typed
field_access name (Some f) = record { row = name; of = ExpressionType.Of f.of; location = f.location }
field_access name None = unknown_at name

-- rule 23, at the `.`; rule 24: the record type has no such field, at the field's name
unfoldable pub selected_field : Typed → ℕ → ℕ → Step Typed
selected_field p dot name = do
  r ← look (λ k. type_row k p.of)
  _ ← late 23 dot (is_record r)
  f ← look (λ k. field_named k r name)
  _ ← late 24 name (has_field r f)
  _ ← put name (field_row p f)
  give (field_access name f)

-- ---- dereferences

abbrev pub is_pointer : Option TypeRow → Bool
is_pointer None = true
is_pointer (Some (TypeRow.Pointer domain)) = true
is_pointer (Some t) = false

abbrev pub dereference_row : Option TypeRow → Typed → Row
dereference_row (Some (TypeRow.Pointer domain)) p = Row.Access (AccessRow.Dereference p.row domain)
dereference_row r p = Row.Nothing

-- After a `^` it counts no more whether the pointer is a component of something packed.
abbrev pub domain_at : Option TypeRow → ℕ → Typed
domain_at (Some (TypeRow.Pointer domain)) caret =
    record { row = caret; of = ExpressionType.Of domain; location = Location.Variable }
domain_at r caret = unknown_at caret

-- rule 23, at the `^`
unfoldable pub dereferenced : Typed → ℕ → Step Typed
dereferenced p caret = do
  r ← look (λ k. type_row k p.of)
  _ ← late 23 caret (is_pointer r)
  _ ← put caret (dereference_row r p)
  give (domain_at r caret)
