-- Fields of variants, and which variant of a record is the active one (6.4.3.3, 6.5.3.3).
use Rattle.std.specs.Prelude.{if◌then◌else◌, ◌&&◌, ◌+◌, ℕ, ℤ, Bool, None, Option, Some, false, length, nat_lt, not, pos}
use Rattle.std.specs.{Prelude.replicate, Prelude.suc, Prelude.true, Prelude.zero, Ordering.int_eq}
use Rattle.cell_value.specs.declared.{values.Value.Value, ways_out.Kind.Kind}
use Rattle.cell_value.specs.declared.values.Value.TheVariants as value
use Rattle.core_program.specs.{Acts.Fault, Choices.Sought, Choices.choice_of, State.moved, Values.tested}
use Rattle.core_program.specs.Actions.{◌>>=◌, Action, Fail, Give, NoMeaning}
use Rattle.core_program.specs.Cells.{assign, read_value, write, writes}
use Rattle.core_program.specs.ProgramRows.{ProgramRows, row_at}
use Rattle.core_program.specs.declared.{rows.AccessRow.AccessRow, variants.VariantPart.VariantPart}
use Rattle.core_program.specs.declared.rows.{NameRow.NameRow, PartRow.PartRow, Row.Row, TypeRow.TypeRow}

abbrev pub part_in : Row → Option VariantPart
part_in (Row.Part (PartRow.Variants hidden offset cells values holder)) = Some (record {
  hidden = hidden;
  offset = offset;
  cells = cells;
  values = values;
  holder = holder;
})
part_in r = None

-- a variant: its variant part, and its position there, from 1
abbrev pub at_position : Option VariantPart → ℕ → Option (Option (VariantPart × ℕ))
at_position None position = None
at_position (Some part) position = Some (Some (part, position))

-- The variant that a holder of fields is, if it is one. A record holds those of its fixed part. What is neither holds
-- no fields.
abbrev pub variant_in : ProgramRows → Row → Option (Option (VariantPart × ℕ))
variant_in p (Row.Part (PartRow.Variant variants position)) = at_position (part_in (row_at p variants)) position
variant_in p (Row.Type (TypeRow.Record packed region cells variants)) = Some None
variant_in p r = None

abbrev pub variant_at : ProgramRows → (holder : ℕ) → Option (Option (VariantPart × ℕ))
variant_at p holder = variant_in p (row_at p holder)

-- ---- the chosen variant

abbrev pub position_in : Row → Option (Option ℤ)
position_in (Row.Part (PartRow.Variant variants position)) = Some (Some (pos position))
position_in r = None

abbrev pub position_at : ProgramRows → Sought → Option (Option ℤ)
position_at p None = None
position_at p (Some None) = Some None
position_at p (Some (Some variant)) = position_in (row_at p variant)

-- The position of the variant that a tag with a value chooses, if it chooses one. A hidden tag holds the position
-- itself. There is no answer where the tables are not whole.
abbrev pub chosen : ProgramRows → VariantPart → (tag : Value) → Option (Option ℤ)
chosen p part (value.Number i) =
    if part.hidden then Some (Some i) else position_at p (choice_of p (length p.rows) part.values i)
chosen p part _ = Some None

-- goes on with an answer
abbrev pub answered : {A B : Type 0} → Option A → (A → Action B) → Action B
answered None go = NoMeaning
answered (Some x) go = go x

abbrev pub is_at : Option ℤ → (position : ℕ) → Bool
is_at None position = false
is_at (Some i) position = int_eq i (pos position)

-- whether another variant is chosen than before, or none was
abbrev pub changes : (before now : Option ℤ) → Bool
changes None now = true
changes (Some i) None = false
changes (Some i) (Some j) = not (int_eq i j)

-- the cells from an address on are undefined
abbrev pub undefine_cells : (addr cells : ℕ) → Action (Unit {0})
undefine_cells addr cells = writes addr (replicate cells value.Undefined)

abbrev pub undefine_if : Bool → (addr cells : ℕ) → Action (Unit {0})
undefine_if true addr cells = undefine_cells addr cells
undefine_if false addr cells = Give tt

-- A tag, whose cell is at an address, gets a value. If that chooses another variant than before, or none was chosen,
-- every cell of the variants is undefined, which are those after the tag's.
abbrev pub activate : ProgramRows → VariantPart → (addr : ℕ) → Value → Action (Unit {0})
activate p part addr tag = read_value addr >>= λ before. write addr tag >>= λ _.
    answered (chosen p part before) (λ was. answered (chosen p part tag) (λ now.
    undefine_if (changes was now) (moved addr 1) part.cells))

-- ---- fields

-- goes on with a variant, if there is one
abbrev pub on_variant : Option (Option (VariantPart × ℕ)) → (VariantPart → ℕ → Action (Unit {0}))
    → Action (Unit {0})
on_variant None go = NoMeaning
on_variant (Some None) go = Give tt
on_variant (Some (Some (part, position))) go = go part position

-- what is done with a variant that is not the chosen one: of a target access it is activated, if the tag is hidden
abbrev pub or_activated : ProgramRows → (target : Bool) → VariantPart → (position addr : ℕ) → Bool → Action (Unit {0})
or_activated p target part position addr true = Give tt
or_activated p target part position addr false =
    if target && part.hidden then activate p part addr (value.Number (pos position))
    else Fail (Fault Kind.InactiveVariant)

-- the tag before a variant, of the record variable at an address, is read and tested
abbrev pub variant_entered : ProgramRows → (target : Bool) → (addr : ℕ) → VariantPart → (position : ℕ)
    → Action (Unit {0})
variant_entered p target addr part position = read_value (moved addr part.offset) >>= λ tag.
    answered (chosen p part tag) (λ now.
    or_activated p target part position (moved addr part.offset) (is_at now position))

-- The tags around what a holder holds, the outermost first: each is tested before the next is read. A holder stands
-- before what it holds; `n` is how many are looked at.
abbrev pub all_entered : ProgramRows → (target : Bool) → (addr n holder : ℕ) → Action (Unit {0})
all_entered p target addr zero holder = NoMeaning
all_entered p target addr (suc n) holder = on_variant (variant_at p holder) (λ part position.
    if nat_lt part.holder holder
    then (all_entered p target addr n part.holder >>= λ _. variant_entered p target addr part position)
    else NoMeaning)

-- the place of a field in its record, and what holds it
abbrev pub field_in : Row → Option (ℕ × ℕ)
field_in (Row.Name (NameRow.Field of' offset holder)) = Some (offset, holder)
field_in (Row.Name (NameRow.Tag of' offset holder variants)) = Some (offset, holder)
field_in r = None

abbrev pub field_held : ProgramRows → (target : Bool) → (addr : ℕ) → Option (ℕ × ℕ) → Action ℕ
field_held p target addr None = NoMeaning
field_held p target addr (Some (offset, holder)) =
    all_entered p target addr (holder + 1) holder >>= λ _. Give (moved addr offset)

-- the field of a row, of the record variable at an address
abbrev pub field_at : ProgramRows → (target : Bool) → (addr : ℕ) → Row → Action ℕ
field_at p target addr r = field_held p target addr (field_in r)

-- ---- assignments

abbrev pub tag_before : Option VariantPart → Option (Option VariantPart)
tag_before None = None
tag_before (Some part) = Some (Some part)

-- the variant part whose tag field stands at a row, if that is a tag field
abbrev pub tag_of : ProgramRows → Row → Option (Option VariantPart)
tag_of p (Row.Name (NameRow.Tag of' offset holder variants)) = tag_before (part_in (row_at p variants))
tag_of p (Row.Name (NameRow.Field of' offset holder)) = Some None
tag_of p r = None

-- the variant part whose tag field an access denotes, if it denotes one
abbrev pub tag_accessed : ProgramRows → Row → Option (Option VariantPart)
tag_accessed p (Row.Access (AccessRow.Within record' field of')) = tag_of p (row_at p field)
tag_accessed p (Row.Access (AccessRow.Field inner field of')) = tag_of p (row_at p field)
tag_accessed p (Row.Access a) = Some None
tag_accessed p r = None

abbrev pub assign_tag : ProgramRows → VariantPart → Option TypeRow → (addr : ℕ) → Value → Action (Unit {0})
assign_tag p part t addr v = tested p t v >>= activate p part addr

-- The variable that an access denotes gets a value, after the test for its type (6.8.2.2). The value of a tag field
-- chooses a variant.
abbrev pub assign_to : ProgramRows → (tag : Option (Option VariantPart)) → Option TypeRow → (addr : ℕ) → Value
    → Action (Unit {0})
assign_to p None t addr v = NoMeaning
assign_to p (Some None) t addr v = assign p t addr v
assign_to p (Some (Some part)) t addr v = assign_tag p part t addr v
