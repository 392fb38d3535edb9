-- Whether tables are laid out, as a test. It goes over the actuals of a call and the sections of its heading in step,
-- and over the names of each heading with the place that each is to have.
use Rattle.std.specs.Prelude.{if◌then◌else◌, ◌&&◌, ◌+◌, ◌-◌, ◌||◌, ℕ, Bool, None, Option, Some, false, is_none, is_some}
use Rattle.std.specs.Prelude.{length, min, nat_eq, nat_le, nat_lt, not, suc, true, zero}
use Rattle.core_program.specs.Headings.{heading_in, variable_type}
use Rattle.core_program.specs.ProgramRows.{ProgramRows, routine_at, row_at, size_of, type_at}
use Rattle.core_program.specs.WholeTables.{is_conformant, is_end, type_accessed}
use Rattle.core_program.specs.declared.{program.Routine.Routine, rows.ExpressionRow.ExpressionRow}
use Rattle.core_program.specs.declared.rows.{AccessRow.AccessRow, ItemRow.ItemRow, Mode.Mode, NameRow.NameRow}
use Rattle.core_program.specs.declared.rows.{PartRow.PartRow, Row.Row, StatementRow.StatementRow, TypeRow.TypeRow}
use Rattle.whole_tables.specs.Fits.{all_below, same_bool}
use Rattle.run_laws.specs.{LaidOut.some_has, ParameterPieces.name_after}
use Rattle.run_laws.specs.LaidOut.{after_result, all_behind, cells_accessed, cells_given, most_cells, most_tokens}

-- a test, and what comes of it where it holds
abbrev pub on_if : Bool → Option ℕ → Option ℕ
on_if true o = o
on_if false o = None

-- ---- schemas

-- the component type of a conformant array
abbrev pub spec_component : Option TypeRow → Option ℕ
spec_component (Some (TypeRow.Conformant packed index component place)) = Some component
spec_component t = None

-- this many specs before others
abbrev pub specs_before : (specs : ℕ) → Option (ℕ × ℕ) → Option (ℕ × ℕ)
specs_before specs None = None
specs_before specs (Some s) = Some (specs + s.0, s.1)

abbrev pub and_inside : (inside : ℕ → Option (ℕ × ℕ)) → (of' : ℕ) → (there : Bool) → Option ℕ → Option (ℕ × ℕ)
and_inside inside of' there (Some component) = specs_before 1 (inside component)
and_inside inside of' true None = Some (0, of')
and_inside inside of' false None = None

abbrev pub schema_within : ℕ → ProgramRows → (of' : ℕ) → Option (ℕ × ℕ)
schema_within zero p of' = None
schema_within (suc n) p of' =
    and_inside (schema_within n p) of' (is_some (type_at p of')) (spec_component (type_at p of'))

-- How many specs the schema of a type has, and the type of the components inside of them. What is no conformant array
-- has no spec, and is itself inside.
abbrev pub schema_of : ProgramRows → (of' : ℕ) → Option (ℕ × ℕ)
schema_of p of' = schema_within (length p.rows) p of'

-- ---- arrays that are passed first in a section

abbrev pub array_component : Option TypeRow → Option ℕ
array_component (Some (TypeRow.Array packed index component cells)) = Some component
array_component t = None

abbrev pub and_deeper : (deeper : ℕ → Bool) → Option ℕ → Bool
and_deeper deeper None = false
and_deeper deeper (Some component) = deeper component

-- a type is an array of arrays, this many within one another
abbrev pub is_deep : ℕ → ProgramRows → (of' : ℕ) → Bool
is_deep zero p of' = true
is_deep (suc n) p of' = and_deeper (is_deep n p) (array_component (type_at p of'))

-- an array of this schema has as many extents as are wanted
abbrev pub extents_reach : ProgramRows → (wanted : ℕ) → (given : Option (ℕ × ℕ)) → Bool
extents_reach p wanted None = false
extents_reach p wanted (Some s) = nat_le s.0 wanted && is_deep (wanted - s.0) p s.1

abbrev pub given_reaches : ProgramRows → (given : ℕ) → (wanted : Option (ℕ × ℕ)) → Bool
given_reaches p given None = false
given_reaches p given (Some s) = extents_reach p s.0 (schema_of p given)

abbrev pub has_one_spec : Option (ℕ × ℕ) → Bool
has_one_spec None = false
has_one_spec (Some s) = nat_eq s.0 1

-- What is passed has as many extents as a type has specs. An array of this very type has.
abbrev pub fits_schema : ProgramRows → (of' : ℕ) → Row → Bool
fits_schema p of' (Row.Access a) =
    nat_eq (type_accessed a) of' || given_reaches p (type_accessed a) (schema_of p of')
fits_schema p of' r = has_one_spec (schema_of p of')

-- ---- actuals by value

abbrev pub given_is : Option ℕ → (cells : ℕ) → Bool
given_is None cells = false
given_is (Some n) cells = nat_eq n cells

-- ---- actuals and sections

abbrev pub is_passed_array : ProgramRows → (of' : ℕ) → (first : Bool) → (given : ℕ) → (given_first : Bool) → Bool
is_passed_array p of' first given given_first =
    is_conformant p of' && (nat_eq given of' && same_bool given_first first)

-- an actual is one for a name of a section, the first name or a further one
abbrev pub takes_item : ProgramRows → Mode → (of' : ℕ) → (first : Bool) → Row → Bool
takes_item p Mode.Value of' first (Row.Item (ItemRow.Value v given next)) =
    not (is_conformant p of') && nat_eq (size_of p given) (size_of p of')
takes_item p Mode.Place of' first (Row.Item (ItemRow.Place a next)) =
    not (is_conformant p of') && nat_eq (cells_accessed p (row_at p a)) (size_of p of')
takes_item p Mode.Place of' first (Row.Item (ItemRow.ArrayPlace given_first a given next)) =
    is_passed_array p of' first given given_first
takes_item p Mode.Copy of' first (Row.Item (ItemRow.ArrayValue given_first v given next)) =
    is_passed_array p of' first given given_first
takes_item p m of' first r = false

-- the actual after one
abbrev pub next_actual : Row → ℕ
next_actual (Row.Item (ItemRow.Value v of' next)) = next
next_actual (Row.Item (ItemRow.Place a next)) = next
next_actual (Row.Item (ItemRow.ArrayPlace first a of' next)) = next
next_actual (Row.Item (ItemRow.ArrayValue first v of' next)) = next
next_actual r = 0

-- the actual after those for this many names, if each is one for its name
abbrev pub names_meet : ℕ → ProgramRows → Mode → (of' : ℕ) → (first : Bool) → (at : ℕ) → Option ℕ
names_meet zero p m of' first at = Some at
names_meet (suc n) p m of' first at = on_if (takes_item p m of' first (row_at p at))
    (names_meet n p m of' false (next_actual (row_at p at)))

abbrev pub routine_meets : Row → Option ℕ
routine_meets (Row.Item (ItemRow.Routine routine levels next)) = Some next
routine_meets (Row.Item (ItemRow.RoutineFormal formal levels next)) = Some next
routine_meets r = None

-- the actual after those for a section, which has at least one name
abbrev pub section_meets : ProgramRows → (section : Row) → (at : ℕ) → Option ℕ
section_meets p (Row.Item (ItemRow.Section m first count next)) at =
    on_if (nat_lt 0 count) (names_meet count p m (variable_type (row_at p first) first) true at)
section_meets p (Row.Item (ItemRow.RoutineSection heading next)) at = routine_meets (row_at p at)
section_meets p r at = None

abbrev pub next_section : Row → Option ℕ
next_section (Row.Item (ItemRow.Section m first count next)) = Some next
next_section (Row.Item (ItemRow.RoutineSection heading next)) = Some next
next_section r = None

abbrev pub and_further_meet : (further : (section at : ℕ) → Bool) → (at : ℕ) → (next after : Option ℕ) → Bool
and_further_meet further at None after = is_end at
and_further_meet further at (Some next) None = false
and_further_meet further at (Some next) (Some after) = further next after

-- the actuals from one on are those for the sections from one on, of which fewer than this many are gone over
abbrev pub sections_meet : ℕ → ProgramRows → (section at : ℕ) → Bool
sections_meet zero p section at = false
sections_meet (suc n) p section at = and_further_meet (sections_meet n p) at (next_section (row_at p section))
    (section_meets p (row_at p section) at)

abbrev pub sections_in : Row → Option ℕ
sections_in (Row.Part (PartRow.Heading name sections result)) = Some sections
sections_in r = None

abbrev pub heading_meets : ProgramRows → (actuals : ℕ) → (sections : Option ℕ) → Bool
heading_meets p actuals None = is_end actuals
heading_meets p actuals (Some sections) = sections_meet (length p.rows) p sections actuals

abbrev pub routine_takes : ProgramRows → (actuals : ℕ) → Option Routine → Bool
routine_takes p actuals None = true
routine_takes p actuals (Some r) = heading_meets p actuals (sections_in (row_at p r.heading))

abbrev pub formal_takes : ProgramRows → (actuals : ℕ) → (heading : Option ℕ) → Bool
formal_takes p actuals None = true
formal_takes p actuals (Some heading) = heading_meets p actuals (sections_in (row_at p heading))

-- ---- places

-- the place after this many cells
abbrev pub place_after : (place cells : ℕ) → ℕ
place_after place cells = min (place + cells) most_cells

abbrev pub is_bound_at : (place : ℕ) → Row → Bool
is_bound_at place (Row.Name (NameRow.Bound of' at level)) = nat_eq at place
is_bound_at place r = false

-- The bounds of the first spec of a type have this place and the next one, and so have their names.
abbrev pub spec_stands : ProgramRows → (of' place : ℕ) → Option TypeRow → Bool
spec_stands p of' place (Some (TypeRow.Conformant packed index component at)) = nat_le of' 4294967292
    && (nat_eq at place && (is_bound_at place (row_at p (of' + 1))
    && is_bound_at (place_after place 1) (row_at p (of' + 3))))
spec_stands p of' place t = false

abbrev pub and_specs_inside : (inside : (of' place : ℕ) → Option ℕ) → (place : ℕ) → (there : Bool)
    → (component : Option ℕ) → (stands : Bool) → Option ℕ
and_specs_inside inside place there (Some component) stands = on_if stands (inside component (place_after place 2))
and_specs_inside inside place true None stands = Some place
and_specs_inside inside place false None stands = None

-- the place after all bounds of a type, of which fewer than this many pairs are gone over
abbrev pub specs_end : ℕ → ProgramRows → (of' place : ℕ) → Option ℕ
specs_end zero p of' place = None
specs_end (suc n) p of' place = and_specs_inside (specs_end n p) place (is_some (type_at p of'))
    (spec_component (type_at p of')) (spec_stands p of' place (type_at p of'))

-- both are the mode of a parameter
abbrev pub same_parameter : Mode → Mode → Bool
same_parameter Mode.Value Mode.Value = true
same_parameter Mode.Place Mode.Place = true
same_parameter Mode.Copy Mode.Copy = true
same_parameter m n = false

abbrev pub is_variable_at : Mode → (place : ℕ) → Row → Bool
is_variable_at m place (Row.Name (NameRow.Variable mode of' at level)) = same_parameter mode m && nat_eq at place
is_variable_at m place r = false

-- the cells of a parameter, whose type has this many
abbrev pub name_cells : Mode → (cells : ℕ) → ℕ
name_cells Mode.Place cells = 1
name_cells Mode.Copy cells = 1
name_cells m cells = cells

abbrev pub names_end : ℕ → ProgramRows → Mode → (cells token place : ℕ) → Option ℕ
names_end zero p m cells token place = Some place
names_end (suc n) p m cells token place = on_if (is_variable_at m place (row_at p token))
    (names_end n p m cells (name_after token) (place_after place cells))

abbrev pub and_names_end : ℕ → ProgramRows → Mode → (cells token : ℕ) → (place : Option ℕ) → Option ℕ
and_names_end count p m cells token None = None
and_names_end count p m cells token (Some place) = names_end count p m cells token place

abbrev pub is_routine_at : (place : ℕ) → Row → Bool
is_routine_at place (Row.Name (NameRow.RoutineFormal at level heading)) = nat_eq at place
is_routine_at place r = false

abbrev pub routine_end : ProgramRows → (heading : Row) → (place : ℕ) → Option ℕ
routine_end p (Row.Part (PartRow.Heading name sections result)) place =
    on_if (is_routine_at place (row_at p name)) (Some (place_after place 1))
routine_end p r place = None

-- the place after a section from a place on, if each of its parameters stands where the one before it ends
abbrev pub section_end : ProgramRows → (section : Row) → (place : ℕ) → Option ℕ
section_end p (Row.Item (ItemRow.Section m first count next)) place =
    and_names_end count p m (name_cells m (size_of p (variable_type (row_at p first) first))) first
    (specs_end (length p.rows) p (variable_type (row_at p first) first) place)
section_end p (Row.Item (ItemRow.RoutineSection heading next)) place = routine_end p (row_at p heading) place
section_end p r place = None

abbrev pub and_further_end : (further : (section place : ℕ) → Option ℕ) → (place : ℕ) → (next after : Option ℕ)
    → Option ℕ
and_further_end further place None after = Some place
and_further_end further place (Some next) None = None
and_further_end further place (Some next) (Some after) = further next after

-- the same of the sections from one on, of which fewer than this many are gone over
abbrev pub sections_end : ℕ → ProgramRows → (section place : ℕ) → Option ℕ
sections_end zero p section place = None
sections_end (suc n) p section place = and_further_end (sections_end n p) place (next_section (row_at p section))
    (section_end p (row_at p section) place)

-- the place after the parameters of a heading, which stand behind the link
abbrev pub heading_end : ProgramRows → (sections : Option ℕ) → Option ℕ
heading_end p None = Some 1
heading_end p (Some sections) = sections_end (length p.rows) p sections 1

-- ---- blocks

-- what is next to the parameters, if it is there
abbrev pub is_next : (place : Option ℕ) → (parameters : ℕ) → Bool
is_next None parameters = true
is_next (Some place) parameters = nat_eq place parameters

-- one variable of the block stands next, where there are cells for one
abbrev pub first_stands : ProgramRows → (number : ℕ) → Routine → (place : ℕ) → Bool
first_stands p number r place = nat_le r.cells place || some_has p number r place r.statements

abbrev pub block_laid : ProgramRows → (number : ℕ) → Routine → Bool
block_laid p number r = is_next r.result r.parameters && (all_behind p number r r.statements
    && first_stands p number r (after_result r.result r.parameters))

-- ---- rows, routines and tables

abbrev pub item_laid : ProgramRows → ItemRow → Bool
item_laid p (ItemRow.Value v of' next) = given_is (cells_given p (row_at p v)) (size_of p of')
item_laid p (ItemRow.ArrayPlace true a of' next) = fits_schema p of' (row_at p a)
item_laid p (ItemRow.ArrayValue true v of' next) = fits_schema p of' (row_at p v)
item_laid p i = true

abbrev pub row_laid : ProgramRows → (at : ℕ) → Row → Bool
row_laid p at (Row.Item i) = nat_lt at most_tokens && item_laid p i
row_laid p at (Row.Name (NameRow.Bound of' place level)) = nat_lt at most_tokens
row_laid p at (Row.Statement (StatementRow.Call line routine levels actuals)) =
    routine_takes p actuals (routine_at p routine)
row_laid p at (Row.Statement (StatementRow.CallFormal line formal levels actuals)) =
    formal_takes p actuals (heading_in (row_at p formal))
row_laid p at (Row.Expression (ExpressionRow.Apply routine levels actuals)) =
    routine_takes p actuals (routine_at p routine)
row_laid p at (Row.Expression (ExpressionRow.ApplyFormal formal levels actuals)) =
    formal_takes p actuals (heading_in (row_at p formal))
row_laid p at (Row.Part (PartRow.Heading name sections result)) = is_some (heading_end p (Some sections))
row_laid p at r = true

abbrev pub ends_at : (place : ℕ) → (found : Option ℕ) → Bool
ends_at place None = false
ends_at place (Some found) = nat_eq place found

abbrev pub routine_laid : ProgramRows → (number : ℕ) → Option Routine → Bool
routine_laid p number None = true
routine_laid p number (Some r) = ends_at r.parameters (heading_end p (sections_in (row_at p r.heading)))
    && (nat_le r.parameters r.cells && block_laid p number r)

abbrev pub has_no_heading : ProgramRows → Option Routine → Bool
has_no_heading p None = true
has_no_heading p (Some r) = is_none (sections_in (row_at p r.heading))

abbrev pub are_laid : ProgramRows → (rows : ℕ) → Bool
are_laid p rows = all_below rows (λ at. row_laid p at (row_at p at))
    && (all_below (length p.routines) (λ n. routine_laid p n (routine_at p n)) && has_no_heading p (routine_at p 0))
