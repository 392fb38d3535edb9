-- Schemas of conformant parameters (6.6.3.7.1): their bounds, and the types of their arrays.
use Rattle.std.specs.Prelude.{◌+◌, ℕ, Bool, false, true}
use Rattle.pas_tree.specs.SchemaTrees.{FormalTypeTree, SchemaTree}
use Rattle.pas_tree.specs.SchemaTrees as tree
use Rattle.pas_tree.specs.declared.schemas.{NextSpec.NextSpec, Spec.Spec}
use Rattle.core_program.specs.declared.rows.{Mode.Mode, NameRow.NameRow, Row.Row, TypeRow.TypeRow}
use Rattle.check_steps.specs.Steps.{◌>>=◌, Step, each, give, put}
use Rattle.kind_checker.specs.{Names.define_name, Sizes.frame_capped, Types.named_type, Types.ordinal}
use Rattle.kind_checker.specs.declared.names.NameKind.{NameKind}
use Rattle.denoter_checker.specs.declared.schemas.{OpenSpec.OpenSpec, PlacedType.PlacedType}

-- ---- bounds as names

-- Both bounds of a spec are names of the region of the formals; rule 2: a region defines a name a second time.
unfoldable pub define_spec : (region : ℕ) → Spec → Step (Unit {0})
define_spec region s = do
  _ ← define_name region NameKind.Formal tt s.least
  define_name region NameKind.Formal tt s.greatest

unfoldable pub define_next_spec : (region : ℕ) → Unit {0} → NextSpec → Step (Unit {0})
define_next_spec region u n = define_spec region n.spec

abbrev mutual
  -- the bounds of a section's type, in the order of the text
  pub define_bounds : (region : ℕ) → FormalTypeTree → Step (Unit {0})
  define_bounds region (tree.a_formal_name n) = give tt
  define_bounds region (tree.a_schema s) = define_schema region s

  pub define_schema : (region : ℕ) → SchemaTree → Step (Unit {0})
  define_schema region (tree.a_packed_schema p) = define_spec region p.spec
  define_schema region (tree.an_unpacked_schema word left specs right of_word component) = do
    _ ← define_spec region specs.first
    _ ← each (define_next_spec region) tt specs.others
    define_bounds region component

-- ---- what bounds and arrays are, and where a frame has the bounds

abbrev pub bound_row : (level of' place : ℕ) → Row
bound_row level of' place = Row.Name (NameRow.Bound of' place level)

-- A spec, whose array is the type at a slot and whose bounds stand at a place of a frame and at the next one. Rules 1
-- and 3: the name of its type is to stand for one. Rule 6, at that name: the type is to be ordinal.
unfoldable pub open_spec : (frame level slot at : ℕ) → Spec → Step OpenSpec
open_spec frame level slot at s = do
  t ← named_type frame s.of
  index ← ordinal s.of s.of t
  _ ← put s.least (bound_row level index at)
  _ ← put s.greatest (bound_row level index (frame_capped (at + 1)))
  give (record { slot = slot; index = index; place = at })

-- the array of a spec, once its component type is known
unfoldable pub close_spec : (packed : Bool) → OpenSpec → (component : ℕ) → Step (Unit {0})
close_spec packed s component = put s.slot (Row.Type (TypeRow.Conformant packed s.index component s.place))

abbrev pub after_bounds : OpenSpec → ℕ
after_bounds s = frame_capped (s.place + 2)

-- The components of an array by a spec are the arrays by the spec after it: `array [s; t] of c` is
-- `array [s] of array [t] of c`.
unfoldable pub next_spec : (frame level : ℕ) → OpenSpec → NextSpec → Step OpenSpec
next_spec frame level s n = do
  _ ← close_spec false s n.semicolon
  open_spec frame level n.semicolon (after_bounds s) n.spec

abbrev mutual
  -- the type of a section of parameters, whose bounds stand in a frame from a place on
  pub formal_type : (frame level at : ℕ) → FormalTypeTree → Step PlacedType
  formal_type frame level at (tree.a_formal_name n) = do
    t ← named_type frame n
    give (record { of = t; place = at })
  formal_type frame level at (tree.a_schema s) = schema_type frame level at s

  -- The type of a schema is that of its first spec, at its `[`.
  pub schema_type : (frame level at : ℕ) → SchemaTree → Step PlacedType
  schema_type frame level at (tree.a_packed_schema p) = do
    s ← open_spec frame level p.«open» at p.spec
    component ← named_type frame p.component
    _ ← close_spec true s component
    give (record { of = p.«open»; place = after_bounds s })
  schema_type frame level at (tree.an_unpacked_schema word left specs right of_word component) = do
    first ← open_spec frame level left at specs.first
    last ← each (next_spec frame level) first specs.others
    c ← formal_type frame level (after_bounds last) component
    _ ← close_spec false last c.of
    give (record { of = left; place = c.place })

-- ---- how a frame holds the parameters of a section

-- a conformant parameter by value is a cell with the address of its copy
abbrev pub mode_in : Mode → FormalTypeTree → Mode
mode_in Mode.Value (tree.a_schema s) = Mode.Copy
mode_in m t = m
