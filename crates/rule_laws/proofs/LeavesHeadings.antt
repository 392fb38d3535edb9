-- What the steps of `Rattle.denoter_checker.specs.Headings` leave at other tokens.
use Rattle.std.proofs.Common.{◌+◌, ℕ, None, Option, Some, nat_le}
use Rattle.pas_tree.specs.{Headings.result_node, TreeNodes.procedure_node, declared.headings.ResultType.ResultType}
use Rattle.pas_tree.specs.HeadingPlaces.{heading_name, heading_word}
use Rattle.pas_tree.specs.HeadingTrees.{FormalNamesTree, FormalTree, FormalTrees, FormalsTree, FunctionTree, HeadingTree, HeldFormals, ProcedureTree}
use Rattle.pas_tree.specs.HeadingTrees as tree
use Rattle.pas_tree.specs.TreeNodes.{formal_names_node, formal_node, formals_node, function_node, heading_node, held_formals_node, more_formals_node}
use Rattle.core_program.specs.ProgramRows.{size_of}
use Rattle.core_program.specs.declared.rows.{Mode.Mode, NameRow.NameRow, PartRow.PartRow, Row.Row}
use Rattle.check_steps.specs.Known.{frame_at, type_at}
use Rattle.kind_checker.specs.Sizes.{frame_capped}
use Rattle.denoter_checker.specs.{Formals.is_complete, Schemas.mode_in}
use Rattle.denoter_checker.specs.Headings.{cells_of, checked_result_type, formal_place, function_row, function_signature, may_be_result, more_places}
use Rattle.denoter_checker.specs.Headings.{open_heading, parameter, parameters, places, places_of, procedure_row, procedure_signature, put_more_sections}
use Rattle.denoter_checker.specs.Headings.{put_section, put_sections, result_or, routine_formal, section_list, section_row, signature, value_cells}
use Rattle.rule_laws.proofs.{Every.Every, Every.Of, LeavesFormals.define_formals_at-leaves, LeavesNameLists.each_name-leaves, LeavesSchemas.formal_type-leaves}
use Rattle.rule_laws.proofs.{LeavesTypes.named_type-leaves, TokenPlaces.heading_name-in}
use Rattle.rule_laws.proofs.Leaves.{Leaves, bind-leaves, early-leaves, give-leaves, late-leaves, look-leaves, open_region-leaves, put-leaves, too_big-leaves}

pub value_cells-leaves : {Q : ℕ → Type 0} (t : ℕ) (name : ℕ) → Of Q name → Leaves Q (value_cells t name)
unfolding value_cells
value_cells-leaves t name name-in = bind-leaves (look-leaves (λ k. size_of k.program t))
    (λ cells. bind-leaves (too_big-leaves name (nat_le cells 65536) name-in)
    (λ _. give-leaves cells))

pub cells_of-leaves : {Q : ℕ → Type 0} (m : Mode) (t : ℕ) (name : ℕ) → Of Q name → Leaves Q (cells_of m t name)
cells_of-leaves Mode.Place t name name-in = give-leaves 1
cells_of-leaves Mode.Copy t name name-in = give-leaves 1
cells_of-leaves m t name name-in = value_cells-leaves t name name-in

pub parameter-leaves : {Q : ℕ → Type 0} (m : Mode) (level : ℕ) (t : ℕ) (at : ℕ) (name : ℕ) → Of Q name
    → Leaves Q (parameter m level t at name)
unfolding parameter
parameter-leaves m level t at name name-in = bind-leaves (put-leaves name (Row.Name (NameRow.Variable m t at level)) name-in) (λ _.
    bind-leaves (cells_of-leaves m t name name-in) (λ cells. give-leaves (frame_capped (at + cells))))

pub parameters-leaves : {Q : ℕ → Type 0} (m : Mode) (frame : ℕ) (at : ℕ) (f : FormalNamesTree) → Every Q (formal_names_node f)
    → Leaves Q (parameters m frame at f)
unfolding parameters
parameters-leaves m frame at f f-in = bind-leaves (look-leaves (λ k. (frame_at k frame).level)) (λ level.
    bind-leaves (formal_type-leaves frame level at f.of_type f-in.1.1) (λ t. each_name-leaves (parameter (mode_in m f.of_type) level t.of) t.place f.names
    (λ a x h. parameter-leaves (mode_in m f.of_type) level t.of a x h) f-in.0))

pub routine_formal-leaves : {Q : ℕ → Type 0} (frame : ℕ) (at : ℕ) (h : HeadingTree) → Every Q (heading_node h) → Leaves Q (routine_formal frame at h)
unfolding routine_formal
routine_formal-leaves frame at h h-in = bind-leaves (look-leaves (λ k. (frame_at k frame).level)) (λ level.
    bind-leaves (put-leaves (heading_name h) (Row.Name (NameRow.RoutineFormal at level (heading_word h))) (heading_name-in h h-in)) (λ _.
    early-leaves 9 (heading_name h) (is_complete h) (heading_name-in h h-in)))

pub open_heading-leaves : {Q : ℕ → Type 0} (frame : ℕ) (h : HeadingTree) → Every Q (heading_node h) → Leaves Q (open_heading frame h)
unfolding open_heading
open_heading-leaves frame h h-in = bind-leaves (look-leaves (λ k. (frame_at k frame).level)) (λ level.
    bind-leaves (open_region-leaves (heading_name h) (Some frame) level)
    (λ inner. bind-leaves (define_formals_at-leaves inner h h-in) (λ _. give-leaves inner)))

pub put_section-leaves : {Q : ℕ → Type 0} (slot : ℕ) (f : FormalTree) (next : ℕ) → Of Q slot → Every Q (formal_node f)
    → Leaves Q (put_section slot f next)
unfolding put_section
put_section-leaves slot f next slot-in f-in = bind-leaves (put-leaves slot (section_row f next) slot-in) (λ _. give-leaves slot)

pub put_more_sections-leaves : {Q : ℕ → Type 0} (rest : FormalTrees) → Every Q (more_formals_node rest)
    → Leaves Q (put_more_sections rest)
put_more_sections-leaves tree.end_of_formals rest-in = give-leaves 0
put_more_sections-leaves (tree.more_formals semicolon f rest) rest-in =
    bind-leaves (put_more_sections-leaves rest rest-in.1) (λ next. put_section-leaves semicolon f next rest-in.0.0 rest-in.0.1)

pub put_sections-leaves : {Q : ℕ → Type 0} (f : FormalsTree) → Every Q (formals_node f) → Leaves Q (put_sections f)
put_sections-leaves (tree.formal_list open' first others close) f-in =
    bind-leaves (put_more_sections-leaves others f-in.1.1.0) (λ next. put_section-leaves open' first next f-in.0 f-in.1.0)

pub section_list-leaves : {Q : ℕ → Type 0} (formals : HeldFormals) → Every Q (held_formals_node formals)
    → Leaves Q (section_list formals)
section_list-leaves tree.without_formals formals-in = give-leaves 0
section_list-leaves (tree.some_formals f) formals-in = put_sections-leaves f formals-in

pub checked_result_type-leaves : {Q : ℕ → Type 0} (around : ℕ) (name : ℕ) → Of Q name → Leaves Q (checked_result_type around name)
unfolding checked_result_type
checked_result_type-leaves around name name-in = bind-leaves (named_type-leaves around name name-in) (λ t. bind-leaves (look-leaves
    (λ k. may_be_result (type_at k t))) (λ fine. bind-leaves (late-leaves 11 name fine name-in) (λ _. give-leaves t)))

pub result_or-leaves : {Q : ℕ → Type 0} (around : ℕ) (name : ℕ) (result_type : Option ResultType) → Every Q (result_node result_type)
    → Leaves Q (result_or around name result_type)
result_or-leaves around name None result_type-in = give-leaves name
result_or-leaves around name (Some r) result_type-in = checked_result_type-leaves around r.name result_type-in.1

pub procedure_row-leaves : {Q : ℕ → Type 0} (word : ℕ) (name : ℕ) (formals : HeldFormals) → Of Q word → Every Q (held_formals_node formals)
    → Leaves Q (procedure_row word name formals)
unfolding procedure_row
procedure_row-leaves word name formals word-in formals-in = bind-leaves (section_list-leaves formals formals-in) (λ list.
    put-leaves word (Row.Part (PartRow.Heading name list None)) word-in)

pub function_row-leaves : {Q : ℕ → Type 0} (around : ℕ) (word : ℕ) (name : ℕ) (formals : HeldFormals) (result : Option ResultType)
    → Of Q word → Every Q (held_formals_node formals) → Every Q (result_node result) → Leaves Q (function_row around word name formals result)
unfolding function_row
function_row-leaves around word name formals result word-in formals-in result-in = bind-leaves (section_list-leaves formals formals-in) (λ list.
    bind-leaves (result_or-leaves around name result result-in) (λ t. put-leaves word (Row.Part (PartRow.Heading name list (Some t))) word-in))

mutual
  pub signature-leaves : {Q : ℕ → Type 0} (around : ℕ) (frame : ℕ) (heading : HeadingTree) → Every Q (heading_node heading)
      → Leaves Q (signature around frame heading)
  signature-leaves around frame (tree.a_procedure p) heading-in = procedure_signature-leaves frame p heading-in
  signature-leaves around frame (tree.a_function f) heading-in = function_signature-leaves around frame f heading-in

  pub procedure_signature-leaves : {Q : ℕ → Type 0} (frame : ℕ) (procedure_heading : ProcedureTree) → Every Q (procedure_node procedure_heading)
      → Leaves Q (procedure_signature frame procedure_heading)
  procedure_signature-leaves frame (tree.procedure_heading word name formals) procedure_heading-in =
      bind-leaves (procedure_row-leaves word name formals procedure_heading-in.0 procedure_heading-in.1.1) (λ _.
      places_of-leaves frame formals procedure_heading-in.1.1)

  pub function_signature-leaves : {Q : ℕ → Type 0} (around : ℕ) (frame : ℕ) (function_heading : FunctionTree) → Every Q (function_node function_heading)
      → Leaves Q (function_signature around frame function_heading)
  function_signature-leaves around frame (tree.function_heading word name formals result) function_heading-in = bind-leaves (function_row-leaves around
      word name formals result function_heading-in.0 function_heading-in.1.1.0 function_heading-in.1.1.1) (λ _.
      places_of-leaves frame formals function_heading-in.1.1.0)

  pub places_of-leaves : {Q : ℕ → Type 0} (frame : ℕ) (formals : HeldFormals) → Every Q (held_formals_node formals)
      → Leaves Q (places_of frame formals)
  places_of-leaves frame tree.without_formals formals-in = give-leaves 1
  places_of-leaves frame (tree.some_formals f) formals-in = places-leaves frame f formals-in

  pub places-leaves : {Q : ℕ → Type 0} (frame : ℕ) (formals : FormalsTree) → Every Q (formals_node formals) → Leaves Q (places frame formals)
  places-leaves frame (tree.formal_list open' first others close) formals-in = bind-leaves (formal_place-leaves frame 1 first formals-in.1.0) (λ next.
      more_places-leaves frame next others formals-in.1.1.0)

  pub more_places-leaves : {Q : ℕ → Type 0} (frame : ℕ) (at : ℕ) (next_formal : FormalTrees) → Every Q (more_formals_node next_formal)
      → Leaves Q (more_places frame at next_formal)
  more_places-leaves frame at tree.end_of_formals next_formal-in = give-leaves at
  more_places-leaves frame at (tree.more_formals semicolon formal rest) next_formal-in = bind-leaves (formal_place-leaves frame at formal next_formal-in.0.1)
      (λ next. more_places-leaves frame next rest next_formal-in.1)

  pub formal_place-leaves : {Q : ℕ → Type 0} (frame : ℕ) (at : ℕ) (formal : FormalTree) → Every Q (formal_node formal)
      → Leaves Q (formal_place frame at formal)
  formal_place-leaves frame at (tree.value_formals f) formal-in = parameters-leaves Mode.Value frame at f formal-in
  formal_place-leaves frame at (tree.variable_formals word f) formal-in = parameters-leaves Mode.Place frame at f formal-in.1
  formal_place-leaves frame at (tree.a_routine_formal h) formal-in = bind-leaves (routine_formal-leaves frame at h formal-in) (λ _.
      bind-leaves (open_heading-leaves frame h formal-in) (λ inner. bind-leaves (signature-leaves frame inner h formal-in) (λ _.
      give-leaves (frame_capped (at + 1)))))
