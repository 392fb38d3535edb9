-- What a name stands for inside of with statements (6.8.3.10), and of which type an access is there (6.5).
-- The records of the with statements around are told by the regions of their types, the innermost first.
use Rattle.std.specs.Prelude.{◌∷◌, [], ℕ, List, None, Option, Some}
use Rattle.pas_tree.specs.ExpressionTrees.{AccessTree, ExpressionTrees, SelectorTree, SelectorTrees}
use Rattle.pas_tree.specs.ExpressionTrees as tree
use Rattle.pas_tree.specs.StatementTrees.{NextAccessTree}
use Rattle.core_program.specs.declared.rows.{NameRow.NameRow, Row.Row, TypeRow.TypeRow}
use Rattle.check_steps.specs.{Names.usable, Regions.defined_in, Regions.or_else}
use Rattle.check_steps.specs.Known.{Known, find, found_with, name_at, row_at, type_at}
use Rattle.check_steps.specs.declared.regions.{Definition.Definition, Found.Found}
use Rattle.decl_checker.specs.Statements.{fields_in}

-- The closest definition of a name: a field of the innermost record that has one of this name, and else what is found
-- from the frame of the block.
abbrev pub closest : Known → ℕ → List ℕ → ℕ → Option Found
closest k frame [] name = find k frame name
closest k frame (region ∷ outer) name =
    or_else (found_with frame (defined_in k.regions region name)) (closest k frame outer name)

-- what the name at a token stands for there
abbrev pub named : Known → ℕ → List ℕ → ℕ → Option Found
named k frame records token = usable token (closest k frame records (name_at k token))

-- ---- types; there is none where a broken rule leaves it unknown

-- the type of a field, or a tag, by its row
abbrev pub type_of_field : Known → Row → Option TypeRow
type_of_field k (Row.Name (NameRow.Field of' offset holder)) = type_at k of'
type_of_field k (Row.Name (NameRow.Tag of' offset holder variants)) = type_at k of'
type_of_field k r = None

-- of a variable, a parameter or a field
abbrev pub type_of_variable : Known → Row → Option TypeRow
type_of_variable k (Row.Name (NameRow.Variable mode of' place level)) = type_at k of'
type_of_variable k r = type_of_field k r

abbrev pub type_found : Known → Option Found → Option TypeRow
type_found k None = None
type_found k (Some f) = type_of_variable k (row_at k f.definition.token)

abbrev pub type_defined : Known → Option Definition → Option TypeRow
type_defined k None = None
type_defined k (Some d) = type_of_field k (row_at k d.token)

-- ---- types of parts

abbrev pub component_type : Known → Option TypeRow → Option TypeRow
component_type k (Some (TypeRow.Array packed index component cells)) = type_at k component
component_type k (Some (TypeRow.Conformant packed index component place)) = type_at k component
component_type k t = None

abbrev pub field_type : Known → Option TypeRow → ℕ → Option TypeRow
field_type k (Some (TypeRow.Record packed region cells variants)) name =
    type_defined k (defined_in k.regions region (name_at k name))
field_type k t name = None

abbrev pub domain_type : Known → Option TypeRow → Option TypeRow
domain_type k (Some (TypeRow.Pointer domain)) = type_at k domain
domain_type k t = None

-- each further index selects once more
abbrev pub more_components : Known → Option TypeRow → ExpressionTrees → Option TypeRow
more_components k t tree.end_of_expressions = t
more_components k t (tree.more_expressions comma e rest) = more_components k (component_type k t) rest

abbrev pub part_type : Known → Option TypeRow → SelectorTree → Option TypeRow
part_type k t (tree.an_index (tree.index_list left first others right)) =
    more_components k (component_type k t) others
part_type k t (tree.a_field dot name) = field_type k t name
part_type k t (tree.a_caret caret) = domain_type k t

abbrev pub selected_type : Known → Option TypeRow → SelectorTrees → Option TypeRow
selected_type k t tree.end_of_selectors = t
selected_type k t (tree.more_selectors s rest) = selected_type k (part_type k t s) rest

abbrev pub access_type : Known → ℕ → List ℕ → AccessTree → Option TypeRow
access_type k frame records a = selected_type k (type_found k (named k frame records a.name)) a.selectors

-- ---- with statements

-- one record more, where it is one
abbrev pub and_record : Option ℕ → List ℕ → List ℕ
and_record None records = records
and_record (Some region) records = region ∷ records

-- the records inside of a with statement of one access
abbrev pub inside_access : Known → ℕ → List ℕ → AccessTree → List ℕ
inside_access k frame records a = and_record (fields_in (access_type k frame records a)) records

-- inside of one of more accesses, each of which is seen from inside of those before it
abbrev pub inside_accesses : Known → ℕ → List ℕ → List NextAccessTree → List ℕ
inside_accesses k frame records [] = records
inside_accesses k frame records (n ∷ ns) = inside_accesses k frame (inside_access k frame records n.access) ns
