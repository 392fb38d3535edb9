-- What the steps of `Rattle.denoter_checker.specs.Headings` leave as it was.
use Rattle.std.proofs.Common.{◌+◌, ◌≡◌, ℕ, None, Option, Some, nat_le, refl, true}
use Rattle.pas_tree.specs.{BlockTrees.RoutineTree, HeadingPlaces.heading_name, HeadingPlaces.heading_word, declared.headings.ResultType.ResultType}
use Rattle.pas_tree.specs.HeadingTrees.{FormalNamesTree, FormalTree, FormalTrees, FormalsTree, FunctionTree, HeadingTree, HeldFormals, ProcedureTree}
use Rattle.pas_tree.specs.HeadingTrees as tree
use Rattle.core_program.specs.ProgramRows.{size_of}
use Rattle.core_program.specs.declared.rows.{Mode.Mode, NameRow.NameRow, PartRow.PartRow, Row.Row}
use Rattle.check_steps.specs.Known.{Known, frame_at, type_at}
use Rattle.kind_checker.specs.Sizes.{frame_capped}
use Rattle.denoter_checker.specs.{Formals.is_complete, Schemas.mode_in}
use Rattle.denoter_checker.specs.Headings.{cells_of, checked_result_type, formal_place, function_row, function_signature, may_be_result, more_places}
use Rattle.denoter_checker.specs.Headings.{open_heading, parameter, parameters, places, places_of, procedure_row, procedure_signature, put_more_sections}
use Rattle.denoter_checker.specs.Headings.{put_section, put_sections, result_or, routine_formal, section_list, section_row, signature, value_cells}
use Rattle.rule_laws.proofs.{LastsFormals.define_formals_at-lasts, LastsSchemas.formal_type-lasts, LastsTypes.named_type-lasts}
use Rattle.rule_laws.proofs.Keeping.{Keeps, ask-keeps, bind-keeps, give-keeps, look-keeps}
use Rattle.rule_laws.proofs.Lasting.{Lasting, each_name-lasts, is_quiet, open_region-lasts, put-lasts}

pub value_cells-lasts : {G : RoutineTree → Type 0} {I : Known → Type 0} (kept : Lasting G I) (t name : ℕ) → Keeps I (value_cells t name)
unfolding value_cells
value_cells-lasts kept t name = bind-keeps (look-keeps (λ k. size_of k.program t))
    (λ cells. bind-keeps (ask-keeps _ name (nat_le cells 65536)) (λ _. give-keeps cells))

pub cells_of-lasts : {G : RoutineTree → Type 0} {I : Known → Type 0} (kept : Lasting G I) (m : Mode) (t name : ℕ) → Keeps I (cells_of m t name)
cells_of-lasts kept Mode.Place t name = give-keeps 1
cells_of-lasts kept Mode.Copy t name = give-keeps 1
cells_of-lasts kept m t name = value_cells-lasts kept t name

pub parameter-lasts : {G : RoutineTree → Type 0} {I : Known → Type 0} (kept : Lasting G I) (m : Mode) (level t at name : ℕ)
    → Keeps I (parameter m level t at name)
unfolding parameter
parameter-lasts kept m level t at name = bind-keeps (put-lasts kept name (Row.Name (NameRow.Variable m t at level)) refl)
    (λ _. bind-keeps (cells_of-lasts kept m t name) (λ cells. give-keeps (frame_capped (at + cells))))

pub parameters-lasts : {G : RoutineTree → Type 0} {I : Known → Type 0} (kept : Lasting G I) (m : Mode) (frame at : ℕ) (f : FormalNamesTree)
    → Keeps I (parameters m frame at f)
unfolding parameters
parameters-lasts kept m frame at f = bind-keeps (look-keeps (λ k. (frame_at k frame).level))
    (λ level. bind-keeps (formal_type-lasts kept frame level at f.of_type)
    (λ t. each_name-lasts (parameter (mode_in m f.of_type) level t.of) t.place f.names
    (λ a x. parameter-lasts kept (mode_in m f.of_type) level t.of a x)))

pub routine_formal-lasts : {G : RoutineTree → Type 0} {I : Known → Type 0} (kept : Lasting G I) (frame at : ℕ) (h : HeadingTree)
    → Keeps I (routine_formal frame at h)
unfolding routine_formal
routine_formal-lasts kept frame at h = bind-keeps (look-keeps (λ k. (frame_at k frame).level))
    (λ level. bind-keeps (put-lasts kept (heading_name h) (Row.Name (NameRow.RoutineFormal at level (heading_word h))) refl)
    (λ _. ask-keeps _ (heading_name h) (is_complete h)))

pub open_heading-lasts : {G : RoutineTree → Type 0} {I : Known → Type 0} (kept : Lasting G I) (frame : ℕ) (h : HeadingTree) → Keeps I (open_heading frame h)
unfolding open_heading
open_heading-lasts kept frame h = bind-keeps (look-keeps (λ k. (frame_at k frame).level))
    (λ level. bind-keeps (open_region-lasts kept (heading_name h) (Some frame) level)
    (λ inner. bind-keeps (define_formals_at-lasts kept inner h) (λ _. give-keeps inner)))

section_quiet : (f : FormalTree) (next : ℕ) → is_quiet (section_row f next) ≡ true
section_quiet (tree.value_formals f) next = refl
section_quiet (tree.variable_formals word f) next = refl
section_quiet (tree.a_routine_formal h) next = refl

pub put_section-lasts : {G : RoutineTree → Type 0} {I : Known → Type 0} (kept : Lasting G I) (slot : ℕ) (f : FormalTree) (next : ℕ)
    → Keeps I (put_section slot f next)
unfolding put_section
put_section-lasts kept slot f next = bind-keeps (put-lasts kept slot (section_row f next) (section_quiet f next)) (λ _. give-keeps slot)

pub put_more_sections-lasts : {G : RoutineTree → Type 0} {I : Known → Type 0} (kept : Lasting G I) (rest : FormalTrees) → Keeps I (put_more_sections rest)
put_more_sections-lasts kept tree.end_of_formals = give-keeps 0
put_more_sections-lasts kept (tree.more_formals semicolon f rest) =
    bind-keeps (put_more_sections-lasts kept rest) (λ next. put_section-lasts kept semicolon f next)

pub put_sections-lasts : {G : RoutineTree → Type 0} {I : Known → Type 0} (kept : Lasting G I) (f : FormalsTree) → Keeps I (put_sections f)
put_sections-lasts kept (tree.formal_list open' first others close) =
    bind-keeps (put_more_sections-lasts kept others) (λ next. put_section-lasts kept open' first next)

pub section_list-lasts : {G : RoutineTree → Type 0} {I : Known → Type 0} (kept : Lasting G I) (formals : HeldFormals) → Keeps I (section_list formals)
section_list-lasts kept tree.without_formals = give-keeps 0
section_list-lasts kept (tree.some_formals f) = put_sections-lasts kept f

pub checked_result_type-lasts : {G : RoutineTree → Type 0} {I : Known → Type 0} (kept : Lasting G I) (around name : ℕ)
    → Keeps I (checked_result_type around name)
unfolding checked_result_type
checked_result_type-lasts kept around name = bind-keeps (named_type-lasts kept around name)
    (λ t. bind-keeps (look-keeps (λ k. may_be_result (type_at k t))) (λ fine. bind-keeps (ask-keeps _ name fine) (λ _. give-keeps t)))

pub result_or-lasts : {G : RoutineTree → Type 0} {I : Known → Type 0} (kept : Lasting G I) (around name : ℕ) (result_type : Option ResultType)
    → Keeps I (result_or around name result_type)
result_or-lasts kept around name None = give-keeps name
result_or-lasts kept around name (Some r) = checked_result_type-lasts kept around r.name

pub procedure_row-lasts : {G : RoutineTree → Type 0} {I : Known → Type 0} (kept : Lasting G I) (word name : ℕ) (formals : HeldFormals)
    → Keeps I (procedure_row word name formals)
unfolding procedure_row
procedure_row-lasts kept word name formals = bind-keeps (section_list-lasts kept formals)
    (λ list. put-lasts kept word (Row.Part (PartRow.Heading name list None)) refl)

pub function_row-lasts : {G : RoutineTree → Type 0} {I : Known → Type 0} (kept : Lasting G I) (around word name : ℕ) (formals : HeldFormals)
    (result : Option ResultType) → Keeps I (function_row around word name formals result)
unfolding function_row
function_row-lasts kept around word name formals result = bind-keeps (section_list-lasts kept formals)
    (λ list. bind-keeps (result_or-lasts kept around name result) (λ t. put-lasts kept word (Row.Part (PartRow.Heading name list (Some t))) refl))

mutual
  pub signature-lasts : {G : RoutineTree → Type 0} {I : Known → Type 0} (kept : Lasting G I) (around frame : ℕ) (heading : HeadingTree)
      → Keeps I (signature around frame heading)
  signature-lasts kept around frame (tree.a_procedure p) = procedure_signature-lasts kept frame p
  signature-lasts kept around frame (tree.a_function f) = function_signature-lasts kept around frame f

  pub procedure_signature-lasts : {G : RoutineTree → Type 0} {I : Known → Type 0} (kept : Lasting G I) (frame : ℕ) (procedure_heading : ProcedureTree)
      → Keeps I (procedure_signature frame procedure_heading)
  procedure_signature-lasts kept frame (tree.procedure_heading word name formals) =
      bind-keeps (procedure_row-lasts kept word name formals) (λ _. places_of-lasts kept frame formals)

  pub function_signature-lasts : {G : RoutineTree → Type 0} {I : Known → Type 0} (kept : Lasting G I) (around frame : ℕ) (function_heading : FunctionTree)
      → Keeps I (function_signature around frame function_heading)
  function_signature-lasts kept around frame (tree.function_heading word name formals result) =
      bind-keeps (function_row-lasts kept around word name formals result) (λ _. places_of-lasts kept frame formals)

  pub places_of-lasts : {G : RoutineTree → Type 0} {I : Known → Type 0} (kept : Lasting G I) (frame : ℕ) (formals : HeldFormals)
      → Keeps I (places_of frame formals)
  places_of-lasts kept frame tree.without_formals = give-keeps 1
  places_of-lasts kept frame (tree.some_formals f) = places-lasts kept frame f

  pub places-lasts : {G : RoutineTree → Type 0} {I : Known → Type 0} (kept : Lasting G I) (frame : ℕ) (formals : FormalsTree) → Keeps I (places frame formals)
  places-lasts kept frame (tree.formal_list open' first others close) =
      bind-keeps (formal_place-lasts kept frame 1 first) (λ next. more_places-lasts kept frame next others)

  pub more_places-lasts : {G : RoutineTree → Type 0} {I : Known → Type 0} (kept : Lasting G I) (frame at : ℕ) (next_formal : FormalTrees)
      → Keeps I (more_places frame at next_formal)
  more_places-lasts kept frame at tree.end_of_formals = give-keeps at
  more_places-lasts kept frame at (tree.more_formals semicolon formal rest) =
      bind-keeps (formal_place-lasts kept frame at formal) (λ next. more_places-lasts kept frame next rest)

  pub formal_place-lasts : {G : RoutineTree → Type 0} {I : Known → Type 0} (kept : Lasting G I) (frame at : ℕ) (formal : FormalTree)
      → Keeps I (formal_place frame at formal)
  formal_place-lasts kept frame at (tree.value_formals f) = parameters-lasts kept Mode.Value frame at f
  formal_place-lasts kept frame at (tree.variable_formals word f) = parameters-lasts kept Mode.Place frame at f
  formal_place-lasts kept frame at (tree.a_routine_formal h) = bind-keeps (routine_formal-lasts kept frame at h)
      (λ _. bind-keeps (open_heading-lasts kept frame h) (λ inner. bind-keeps (signature-lasts kept frame inner h) (λ _. give-keeps (frame_capped (at + 1)))))
