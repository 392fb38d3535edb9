-- Headings (6.6.1, 6.6.2): what formal parameters and results are, and where a frame has them.
use Rattle.std.specs.Prelude.{if◌then◌else◌, ◌+◌, ℕ, Bool, None, Option, Some, false, length, nat_le, nat_lt, true}
use Rattle.pas_tree.specs.{ConstantTrees.NamesTree, HeadingPlaces.heading_name, HeadingPlaces.heading_word}
use Rattle.pas_tree.specs.HeadingTrees.{FormalNamesTree, FormalTree, FormalTrees, FormalsTree, FunctionTree}
use Rattle.pas_tree.specs.HeadingTrees.{HeadingTree, HeldFormals, ProcedureTree}
use Rattle.pas_tree.specs.HeadingTrees as tree
use Rattle.pas_tree.specs.declared.headings.{NextFormal.NextFormal, ResultType.ResultType}
use Rattle.core_program.specs.{ProgramRows.size_of, declared.rows.TypeRow.TypeRow}
use Rattle.core_program.specs.declared.rows.{ItemRow.ItemRow, Mode.Mode, NameRow.NameRow, PartRow.PartRow, Row.Row}
use Rattle.core_program.specs.declared.rows.TypeRow.TheVariants.{Ordinal, Pointer, Subrange}
use Rattle.check_steps.specs.Known.{frame_at, type_at}
use Rattle.check_steps.specs.Steps.{◌>>=◌, Step, early, give, late, look, open_region, put, too_big}
use Rattle.kind_checker.specs.{Names.each_name, Sizes.frame_capped, Types.named_type}
use Rattle.denoter_checker.specs.{Formals.define_formals_at, Formals.is_complete, Schemas.formal_type, Schemas.mode_in}

-- ---- value and variable parameters

-- A value parameter takes the cells of its type, of which more than 65,536 are too many.
unfoldable pub value_cells : ℕ → ℕ → Step ℕ
value_cells t name = do
  cells ← look (λ k. size_of k.program t)
  _ ← too_big name (nat_le cells 65536)
  give cells

-- A variable parameter takes one cell, for an address, and so does a conformant one by value.
abbrev pub cells_of : Mode → ℕ → ℕ → Step ℕ
cells_of Mode.Place t name = give 1
cells_of Mode.Copy t name = give 1
cells_of m t name = value_cells t name

-- a parameter of a type at a place in a frame; the place after it is given
unfoldable pub parameter : Mode → ℕ → ℕ → ℕ → ℕ → Step ℕ
parameter m level t at name = do
  _ ← put name (Row.Name (NameRow.Variable m t at level))
  cells ← cells_of m t name
  give (frame_capped (at + cells))

-- The parameters of a section: the bounds of its schema, if it has one, and then its names.
unfoldable pub parameters : Mode → ℕ → ℕ → FormalNamesTree → Step ℕ
parameters m frame at f = do
  level ← look (λ k. (frame_at k frame).level)
  t ← formal_type frame level at f.of_type
  each_name (parameter (mode_in m f.of_type) level t.of) t.place f.names

-- ---- headings among formals

-- Rule 9: a function heading without result type completes nothing among formals.
unfoldable pub routine_formal : ℕ → ℕ → HeadingTree → Step (Unit {0})
routine_formal frame at h = do
  level ← look (λ k. (frame_at k frame).level)
  _ ← put (heading_name h) (Row.Name (NameRow.RoutineFormal at level (heading_word h)))
  early 9 (heading_name h) (is_complete h)

-- The region of its own formals begins at its name, inside the frame of the heading that holds it. It has no block, so
-- its level is that of this frame. The number of its frame is given.
unfoldable pub open_heading : ℕ → HeadingTree → Step ℕ
open_heading frame h = do
  level ← look (λ k. (frame_at k frame).level)
  inner ← open_region (heading_name h) (Some frame) level
  _ ← define_formals_at inner h
  give inner

-- ---- the list of sections

-- how many names a list has; 4,294,967,295 stands for more
abbrev pub count_of : NamesTree → ℕ
count_of n = if nat_lt (length n.others) 4294967295 then length n.others + 1 else 4294967295

-- a section, and where the next one stands
abbrev pub section_row : FormalTree → ℕ → Row
section_row (tree.value_formals f) next =
    Row.Item (ItemRow.Section (mode_in Mode.Value f.of_type) f.names.first (count_of f.names) next)
section_row (tree.variable_formals word f) next =
    Row.Item (ItemRow.Section Mode.Place f.names.first (count_of f.names) next)
section_row (tree.a_routine_formal h) next = Row.Item (ItemRow.RoutineSection (heading_word h) next)

-- a section at its slot, which is given
unfoldable pub put_section : ℕ → FormalTree → ℕ → Step ℕ
put_section slot f next = do
  _ ← put slot (section_row f next)
  give slot

abbrev pub put_more_sections : FormalTrees → Step ℕ
put_more_sections tree.end_of_formals = give 0
put_more_sections (tree.more_formals semicolon f rest) =
    put_more_sections rest >>= λ next. put_section semicolon f next

-- The sections stand at the `(` and the semicolons, put down from the last one on.
abbrev pub put_sections : FormalsTree → Step ℕ
put_sections (tree.formal_list left first others right) = do
  next ← put_more_sections others
  put_section left first next

-- the list of a heading's sections, which is empty without formals
abbrev pub section_list : HeldFormals → Step ℕ
section_list tree.without_formals = give 0
section_list (tree.some_formals f) = put_sections f

-- ---- results, and the rows of headings

-- A type of which nothing is known breaks no further rule.
abbrev pub may_be_result : Option TypeRow → Bool
may_be_result None = true
may_be_result (Some (Ordinal least greatest)) = true
may_be_result (Some (Subrange host least greatest)) = true
may_be_result (Some (Pointer domain)) = true
may_be_result (Some t) = false

-- Rules 1 and 3: the name is to stand for a type. Rule 11: a function's result type is neither ordinal nor a pointer.
unfoldable pub checked_result_type : ℕ → ℕ → Step ℕ
checked_result_type around name = do
  t ← named_type around name
  fine ← look (λ k. may_be_result (type_at k t))
  _ ← late 11 name fine
  give t

-- Where none is written it is unknown: no type stands at the function's own name.
abbrev pub result_or : ℕ → ℕ → Option ResultType → Step ℕ
result_or around name None = give name
result_or around name (Some r) = checked_result_type around r.name

unfoldable pub procedure_row : ℕ → ℕ → HeldFormals → Step (Unit {0})
procedure_row word name formals = do
  list ← section_list formals
  put word (Row.Part (PartRow.Heading name list None))

unfoldable pub function_row : ℕ → ℕ → ℕ → HeldFormals → Option ResultType → Step (Unit {0})
function_row around word name formals result = do
  list ← section_list formals
  t ← result_or around name result
  put word (Row.Part (PartRow.Heading name list (Some t)))

-- ---- signatures

abbrev mutual
  -- What a heading's formals and its result are. The formals' types are looked up from the frame of its own region,
  -- the result type from the frame around. In a frame the formals' cells follow the link in order; the place after
  -- them is given.
  pub signature : ℕ → ℕ → HeadingTree → Step ℕ
  signature around frame (tree.a_procedure p) = procedure_signature frame p
  signature around frame (tree.a_function f) = function_signature around frame f

  pub procedure_signature : ℕ → ProcedureTree → Step ℕ
  procedure_signature frame (tree.procedure_heading word name formals) = do
    _ ← procedure_row word name formals
    places_of frame formals

  pub function_signature : ℕ → ℕ → FunctionTree → Step ℕ
  function_signature around frame (tree.function_heading word name formals result) = do
    _ ← function_row around word name formals result
    places_of frame formals

  -- the place after the formals
  pub places_of : ℕ → HeldFormals → Step ℕ
  places_of frame tree.without_formals = give 1
  places_of frame (tree.some_formals f) = places frame f

  pub places : ℕ → FormalsTree → Step ℕ
  places frame (tree.formal_list left first others right) = do
    next ← formal_place frame 1 first
    more_places frame next others

  pub more_places : ℕ → ℕ → FormalTrees → Step ℕ
  more_places frame at tree.end_of_formals = give at
  more_places frame at (tree.more_formals semicolon f rest) = do
    next ← formal_place frame at f
    more_places frame next rest

  -- the parameters of a section; a routine takes one cell
  pub formal_place : ℕ → ℕ → FormalTree → Step ℕ
  formal_place frame at (tree.value_formals f) = parameters Mode.Value frame at f
  formal_place frame at (tree.variable_formals word f) = parameters Mode.Place frame at f
  formal_place frame at (tree.a_routine_formal h) = do
    _ ← routine_formal frame at h
    inner ← open_heading frame h
    _ ← signature frame inner h
    give (frame_capped (at + 1))

-- ---- one more of what the code holds

unfoldable pub next_formal_place : ℕ → ℕ → NextFormal → Step ℕ
next_formal_place frame at n = formal_place frame at (tree.formal_tree n.formal)

unfoldable pub put_next_section : ℕ → NextFormal → Step ℕ
put_next_section next n = put_section n.semicolon (tree.formal_tree n.formal) next
