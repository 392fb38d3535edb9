-- What the steps of `Rattle.denoter_checker.specs.Headings` keep.
use Rattle.std.proofs.Common.{◌+◌, ◌<◌, ℕ, Bool, None, Option, Some, false, nat_le, refl}
use Rattle.pas_tree.specs.{Headings.result_node, TreeNodes.procedure_node, declared.headings.ResultType.ResultType}
use Rattle.pas_tree.specs.HeadingPlaces.{heading_name, heading_word}
use Rattle.pas_tree.specs.HeadingTrees.{FormalNamesTree, FormalTree, FormalTrees, FormalsTree, FunctionTree, HeadingTree, HeldFormals, ProcedureTree}
use Rattle.pas_tree.specs.HeadingTrees as tree
use Rattle.pas_tree.specs.TreeNodes.{formal_names_node, formal_node, formals_node, function_node, heading_node, held_formals_node, more_formals_node}
use Rattle.core_program.specs.ProgramRows.{size_of}
use Rattle.core_program.specs.declared.rows.{Mode.Mode, NameRow.NameRow, PartRow.PartRow, Row.Row}
use Rattle.check_steps.specs.Known.{frame_at, type_at}
use Rattle.kind_checker.specs.Sizes.{frame_capped}
use Rattle.denoter_checker.specs.{Formals.is_complete, Schemas.mode_in}
use Rattle.denoter_checker.specs.Headings.{cells_of, checked_result_type, formal_place, function_row, function_signature, may_be_result, more_places}
use Rattle.denoter_checker.specs.Headings.{open_heading, parameter, parameters, places, places_of, procedure_row, procedure_signature, put_more_sections}
use Rattle.denoter_checker.specs.Headings.{put_section, put_sections, result_or, routine_formal, section_list, section_row, signature, value_cells}
use Rattle.code_checker.proofs.{DenoterFormals.define_formals_at-holds, DenoterSchemas.formal_type-holds, KindNames.each_name-holds, KindTypes.named_type-holds}
use Rattle.code_checker.proofs.{TokenPlaces.heading_name-in, Within.Within}
use Rattle.code_checker.proofs.Steps.{Holds, bind-holds, early-holds, give-holds, late-holds, look-holds, open_region-holds, put-holds, too_big-holds}

pub value_cells-holds : {size : ℕ} {later : Bool} (t : ℕ) (name : ℕ) → name < size → Holds size later (value_cells t name)
unfolding value_cells
value_cells-holds t name name-in = bind-holds (look-holds (λ k. size_of k.program t)) (λ cells. bind-holds (too_big-holds name (nat_le cells 65536) name-in)
    (λ _. give-holds cells))

pub cells_of-holds : {size : ℕ} {later : Bool} (m : Mode) (t : ℕ) (name : ℕ) → name < size → Holds size later (cells_of m t name)
cells_of-holds Mode.Place t name name-in = give-holds 1
cells_of-holds Mode.Copy t name name-in = give-holds 1
cells_of-holds m t name name-in = value_cells-holds t name name-in

pub parameter-holds : {size : ℕ} {later : Bool} (m : Mode) (level : ℕ) (t : ℕ) (at : ℕ) (name : ℕ) → name < size
    → Holds size later (parameter m level t at name)
unfolding parameter
parameter-holds m level t at name name-in = bind-holds (put-holds name (Row.Name (NameRow.Variable m t at level))) (λ _.
    bind-holds (cells_of-holds m t name name-in) (λ cells. give-holds (frame_capped (at + cells))))

pub parameters-holds : {size : ℕ} (m : Mode) (frame : ℕ) (at : ℕ) (f : FormalNamesTree) → Within size (formal_names_node f)
    → Holds size false (parameters m frame at f)
unfolding parameters
parameters-holds m frame at f f-in = bind-holds (look-holds (λ k. (frame_at k frame).level)) (λ level.
    bind-holds (formal_type-holds frame level at f.of_type f-in.1.1) (λ t. each_name-holds (parameter (mode_in m f.of_type) level t.of) t.place f.names
    (λ a x h. parameter-holds (mode_in m f.of_type) level t.of a x h) f-in.0))

pub routine_formal-holds : {size : ℕ} (frame : ℕ) (at : ℕ) (h : HeadingTree) → Within size (heading_node h) → Holds size false (routine_formal frame at h)
unfolding routine_formal
routine_formal-holds frame at h h-in = bind-holds (look-holds (λ k. (frame_at k frame).level)) (λ level.
    bind-holds (put-holds (heading_name h) (Row.Name (NameRow.RoutineFormal at level (heading_word h)))) (λ _.
    early-holds 9 (heading_name h) (is_complete h) refl (heading_name-in h h-in)))

pub open_heading-holds : {size : ℕ} (frame : ℕ) (h : HeadingTree) → Within size (heading_node h) → Holds size false (open_heading frame h)
unfolding open_heading
open_heading-holds frame h h-in = bind-holds (look-holds (λ k. (frame_at k frame).level)) (λ level.
    bind-holds (open_region-holds (heading_name h) (Some frame) level) (λ inner. bind-holds (define_formals_at-holds inner h h-in) (λ _. give-holds inner)))

pub put_section-holds : {size : ℕ} {later : Bool} (slot : ℕ) (f : FormalTree) (next : ℕ) → Within size (formal_node f)
    → Holds size later (put_section slot f next)
unfolding put_section
put_section-holds slot f next f-in = bind-holds (put-holds slot (section_row f next)) (λ _. give-holds slot)

pub put_more_sections-holds : {size : ℕ} {later : Bool} (rest : FormalTrees) → Within size (more_formals_node rest)
    → Holds size later (put_more_sections rest)
put_more_sections-holds tree.end_of_formals rest-in = give-holds 0
put_more_sections-holds (tree.more_formals semicolon f rest) rest-in =
    bind-holds (put_more_sections-holds rest rest-in.1) (λ next. put_section-holds semicolon f next rest-in.0.1)

pub put_sections-holds : {size : ℕ} {later : Bool} (f : FormalsTree) → Within size (formals_node f) → Holds size later (put_sections f)
put_sections-holds (tree.formal_list open' first others close) f-in =
    bind-holds (put_more_sections-holds others f-in.1.1.0) (λ next. put_section-holds open' first next f-in.1.0)

pub section_list-holds : {size : ℕ} {later : Bool} (formals : HeldFormals) → Within size (held_formals_node formals)
    → Holds size later (section_list formals)
section_list-holds tree.without_formals formals-in = give-holds 0
section_list-holds (tree.some_formals f) formals-in = put_sections-holds f formals-in

pub checked_result_type-holds : {size : ℕ} (around : ℕ) (name : ℕ) → name < size → Holds size false (checked_result_type around name)
unfolding checked_result_type
checked_result_type-holds around name name-in = bind-holds (named_type-holds around name name-in) (λ t. bind-holds (look-holds
    (λ k. may_be_result (type_at k t))) (λ fine. bind-holds (late-holds 11 name fine refl name-in) (λ _. give-holds t)))

pub result_or-holds : {size : ℕ} (around : ℕ) (name : ℕ) (result_type : Option ResultType) → Within size (result_node result_type)
    → Holds size false (result_or around name result_type)
result_or-holds around name None result_type-in = give-holds name
result_or-holds around name (Some r) result_type-in = checked_result_type-holds around r.name result_type-in.1

pub procedure_row-holds : {size : ℕ} {later : Bool} (word : ℕ) (name : ℕ) (formals : HeldFormals) → Within size (held_formals_node formals)
    → Holds size later (procedure_row word name formals)
unfolding procedure_row
procedure_row-holds word name formals formals-in = bind-holds (section_list-holds formals formals-in) (λ list.
    put-holds word (Row.Part (PartRow.Heading name list None)))

pub function_row-holds : {size : ℕ} (around : ℕ) (word : ℕ) (name : ℕ) (formals : HeldFormals) (result : Option ResultType)
    → Within size (held_formals_node formals) → Within size (result_node result) → Holds size false (function_row around word name formals result)
unfolding function_row
function_row-holds around word name formals result formals-in result-in = bind-holds (section_list-holds formals formals-in) (λ list.
    bind-holds (result_or-holds around name result result-in) (λ t. put-holds word (Row.Part (PartRow.Heading name list (Some t)))))

mutual
  pub signature-holds : {size : ℕ} (around : ℕ) (frame : ℕ) (heading : HeadingTree) → Within size (heading_node heading)
      → Holds size false (signature around frame heading)
  signature-holds around frame (tree.a_procedure p) heading-in = procedure_signature-holds frame p heading-in
  signature-holds around frame (tree.a_function f) heading-in = function_signature-holds around frame f heading-in

  pub procedure_signature-holds : {size : ℕ} (frame : ℕ) (procedure_heading : ProcedureTree) → Within size (procedure_node procedure_heading)
      → Holds size false (procedure_signature frame procedure_heading)
  procedure_signature-holds frame (tree.procedure_heading word name formals) procedure_heading-in =
      bind-holds (procedure_row-holds word name formals procedure_heading-in.1.1) (λ _.
      places_of-holds frame formals procedure_heading-in.1.1)

  pub function_signature-holds : {size : ℕ} (around : ℕ) (frame : ℕ) (function_heading : FunctionTree) → Within size (function_node function_heading)
      → Holds size false (function_signature around frame function_heading)
  function_signature-holds around frame (tree.function_heading word name formals result) function_heading-in = bind-holds (function_row-holds around
      word name formals result function_heading-in.1.1.0 function_heading-in.1.1.1) (λ _.
      places_of-holds frame formals function_heading-in.1.1.0)

  pub places_of-holds : {size : ℕ} (frame : ℕ) (formals : HeldFormals) → Within size (held_formals_node formals)
      → Holds size false (places_of frame formals)
  places_of-holds frame tree.without_formals formals-in = give-holds 1
  places_of-holds frame (tree.some_formals f) formals-in = places-holds frame f formals-in

  pub places-holds : {size : ℕ} (frame : ℕ) (formals : FormalsTree) → Within size (formals_node formals) → Holds size false (places frame formals)
  places-holds frame (tree.formal_list open' first others close) formals-in = bind-holds (formal_place-holds frame 1 first formals-in.1.0) (λ next.
      more_places-holds frame next others formals-in.1.1.0)

  pub more_places-holds : {size : ℕ} (frame : ℕ) (at : ℕ) (next_formal : FormalTrees) → Within size (more_formals_node next_formal)
      → Holds size false (more_places frame at next_formal)
  more_places-holds frame at tree.end_of_formals next_formal-in = give-holds at
  more_places-holds frame at (tree.more_formals semicolon formal rest) next_formal-in = bind-holds (formal_place-holds frame at formal next_formal-in.0.1)
      (λ next. more_places-holds frame next rest next_formal-in.1)

  pub formal_place-holds : {size : ℕ} (frame : ℕ) (at : ℕ) (formal : FormalTree) → Within size (formal_node formal)
      → Holds size false (formal_place frame at formal)
  formal_place-holds frame at (tree.value_formals f) formal-in = parameters-holds Mode.Value frame at f formal-in
  formal_place-holds frame at (tree.variable_formals word f) formal-in = parameters-holds Mode.Place frame at f formal-in.1
  formal_place-holds frame at (tree.a_routine_formal h) formal-in = bind-holds (routine_formal-holds frame at h formal-in) (λ _.
      bind-holds (open_heading-holds frame h formal-in) (λ inner. bind-holds (signature-holds frame inner h formal-in) (λ _.
      give-holds (frame_capped (at + 1)))))
