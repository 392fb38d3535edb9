-- What the steps of `Rattle.denoter_checker.specs.Headings` break.
use Rattle.std.proofs.Common.{◌+◌, ◌≡◌, [], ℕ, None, Option, Some, length, nat_le, refl}
use Rattle.pas_tree.specs.{HeadingPlaces.heading_name, HeadingPlaces.heading_word, declared.headings.ResultType.ResultType}
use Rattle.pas_tree.specs.HeadingTrees.{FormalNamesTree, FormalTree, FormalTrees, FormalsTree, FunctionTree, HeadingTree, HeldFormals, ProcedureTree}
use Rattle.pas_tree.specs.HeadingTrees as tree
use Rattle.core_program.specs.ProgramRows.{size_of}
use Rattle.core_program.specs.declared.rows.{Mode.Mode, NameRow.NameRow, PartRow.PartRow, Row.Row}
use Rattle.check_steps.specs.{Steps.◌>>=◌, Steps.extend, Steps.give, Steps.look, declared.regions.Frame.Frame}
use Rattle.check_steps.specs.Known.{Known, and_region, frame_at, type_at}
use Rattle.kind_checker.specs.Sizes.{frame_capped}
use Rattle.denoter_checker.specs.{Formals.define_formals_at, Formals.is_complete, Schemas.mode_in}
use Rattle.denoter_checker.specs.Headings.{cells_of, checked_result_type, formal_place, function_row, function_signature, may_be_result, more_places}
use Rattle.denoter_checker.specs.Headings.{open_heading, parameter, parameters, places, places_of, procedure_row, procedure_signature, put_more_sections}
use Rattle.denoter_checker.specs.Headings.{put_section, put_sections, result_or, routine_formal, section_list, section_row, signature, value_cells}
use Rattle.rule_laws.proofs.{Breaks.Each, Breaks.both, LastsFormals.define_formals_at-lasts, PlainSchemas.formal_type-plain, PlainTypes.named_type-plain}
use Rattle.rule_laws.proofs.Plain.{Aim, Plain, Solely, ask-plain, bind-solely, each_name-plain, give-solely, look-solely, put-plain}
use Rattle.rule_laws.proofs.TextFields.{Spells, spelling}
use Rattle.rule_laws.specs.FormalRoutines.{OfFormal, OfFormalList, OfFormals, OfFunction, OfHeading, OfOtherFormals, OfProcedure}

pub value_cells-plain : {aim : Aim} (kept : Plain aim) (t name : ℕ) → Solely aim (value_cells t name)
unfolding value_cells
value_cells-plain kept t name = bind-solely (look-solely (λ k. size_of k.program t))
    (λ cells. bind-solely (ask-plain kept _ name (nat_le cells 65536) refl) (λ _. give-solely cells))

pub cells_of-plain : {aim : Aim} (kept : Plain aim) (m : Mode) (t name : ℕ) → Solely aim (cells_of m t name)
cells_of-plain kept Mode.Place t name = give-solely 1
cells_of-plain kept Mode.Copy t name = give-solely 1
cells_of-plain kept m t name = value_cells-plain kept t name

pub parameter-plain : {aim : Aim} (kept : Plain aim) (m : Mode) (level t at name : ℕ)
    → Solely aim (parameter m level t at name)
unfolding parameter
parameter-plain kept m level t at name = bind-solely (put-plain kept name (Row.Name (NameRow.Variable m t at level)))
    (λ _. bind-solely (cells_of-plain kept m t name) (λ cells. give-solely (frame_capped (at + cells))))

pub parameters-plain : {aim : Aim} (kept : Plain aim) (m : Mode) (frame at : ℕ) (f : FormalNamesTree)
    → Solely aim (parameters m frame at f)
unfolding parameters
parameters-plain kept m frame at f = bind-solely (look-solely (λ k. (frame_at k frame).level))
    (λ level. bind-solely (formal_type-plain kept frame level at f.of_type)
    (λ t. each_name-plain (parameter (mode_in m f.of_type) level t.of) t.place f.names
    (λ a x. parameter-plain kept (mode_in m f.of_type) level t.of a x)))

pub routine_formal-plain : {aim : Aim} (kept : Plain aim) (frame at : ℕ) (h : HeadingTree)
    → Solely aim (routine_formal frame at h)
unfolding routine_formal
routine_formal-plain kept frame at h = bind-solely (look-solely (λ k. (frame_at k frame).level))
    (λ level. bind-solely (put-plain kept (heading_name h) (Row.Name (NameRow.RoutineFormal at level (heading_word h))))
    (λ _. ask-plain kept _ (heading_name h) (is_complete h) refl))

-- Of plain rules this holds, and of what is broken at the formal parameters of a formal procedure or function of these, in
-- its region, which is new.
pub record Formals (aim : Aim) (H : HeadingTree → Type 0) : Type 0 where
  pub plain : Plain aim
  pub formals : (k : Known) (token : ℕ) (f : Frame) (h : HeadingTree) → f.region ≡ length k.regions → k.words ≡ aim.words → H h
      → Each aim.P (define_formals_at (length k.frames) h (and_region k token f)).broken

pub open_heading-told : {aim : Aim} {H : HeadingTree → Type 0} (kept : Formals aim H) (frame : ℕ) (h : HeadingTree) → H h → Solely aim (open_heading frame h)
unfolding open_heading look extend give ◌>>=◌
open_heading-told {aim = aim} kept frame h x = record {
  same = λ k.
      let f : Frame = record { region = length k.regions; outer = Some frame; level = (frame_at k frame).level; withs = 0 } in
      let j = and_region k (heading_name h) f in
      let still : Spells k (define_formals_at (length k.frames) h j).known =
      (define_formals_at-lasts (spelling k) (length k.frames) h).of j (record { words = refl }) in
      still.words;
  of = λ k e.
      let f : Frame = record { region = length k.regions; outer = Some frame; level = (frame_at k frame).level; withs = 0 } in
      let d = define_formals_at (length k.frames) h (and_region k (heading_name h) f) in
      both aim.P d.broken [] (kept.formals k (heading_name h) f h refl e x) tt;
}

pub put_section-plain : {aim : Aim} (kept : Plain aim) (slot : ℕ) (f : FormalTree) (next : ℕ)
    → Solely aim (put_section slot f next)
unfolding put_section
put_section-plain kept slot f next = bind-solely (put-plain kept slot (section_row f next)) (λ _. give-solely slot)

pub put_more_sections-plain : {aim : Aim} (kept : Plain aim) (rest : FormalTrees) → Solely aim (put_more_sections rest)
put_more_sections-plain kept tree.end_of_formals = give-solely 0
put_more_sections-plain kept (tree.more_formals semicolon f rest) =
    bind-solely (put_more_sections-plain kept rest) (λ next. put_section-plain kept semicolon f next)

pub put_sections-plain : {aim : Aim} (kept : Plain aim) (f : FormalsTree) → Solely aim (put_sections f)
put_sections-plain kept (tree.formal_list open' first others close) =
    bind-solely (put_more_sections-plain kept others) (λ next. put_section-plain kept open' first next)

pub section_list-plain : {aim : Aim} (kept : Plain aim) (formals : HeldFormals) → Solely aim (section_list formals)
section_list-plain kept tree.without_formals = give-solely 0
section_list-plain kept (tree.some_formals f) = put_sections-plain kept f

pub checked_result_type-plain : {aim : Aim} (kept : Plain aim) (around name : ℕ)
    → Solely aim (checked_result_type around name)
unfolding checked_result_type
checked_result_type-plain kept around name = bind-solely (named_type-plain kept around name)
    (λ t. bind-solely (look-solely (λ k. may_be_result (type_at k t))) (λ fine. bind-solely (ask-plain kept _ name fine refl) (λ _. give-solely t)))

pub result_or-plain : {aim : Aim} (kept : Plain aim) (around name : ℕ) (result_type : Option ResultType)
    → Solely aim (result_or around name result_type)
result_or-plain kept around name None = give-solely name
result_or-plain kept around name (Some r) = checked_result_type-plain kept around r.name

pub procedure_row-plain : {aim : Aim} (kept : Plain aim) (word name : ℕ) (formals : HeldFormals)
    → Solely aim (procedure_row word name formals)
unfolding procedure_row
procedure_row-plain kept word name formals = bind-solely (section_list-plain kept formals)
    (λ list. put-plain kept word (Row.Part (PartRow.Heading name list None)))

pub function_row-plain : {aim : Aim} (kept : Plain aim) (around word name : ℕ) (formals : HeldFormals)
    (result : Option ResultType) → Solely aim (function_row around word name formals result)
unfolding function_row
function_row-plain kept around word name formals result = bind-solely (section_list-plain kept formals)
    (λ list. bind-solely (result_or-plain kept around name result) (λ t. put-plain kept word (Row.Part (PartRow.Heading name list (Some t)))))

mutual
  pub signature-plain : {aim : Aim} {H : HeadingTree → Type 0} (kept : Formals aim H) (around frame : ℕ) (heading : HeadingTree)
      → OfHeading H heading → Solely aim (signature around frame heading)
  signature-plain kept around frame (tree.a_procedure p) i = procedure_signature-plain kept frame p i
  signature-plain kept around frame (tree.a_function f) i = function_signature-plain kept around frame f i

  pub procedure_signature-plain : {aim : Aim} {H : HeadingTree → Type 0} (kept : Formals aim H) (frame : ℕ) (procedure_heading : ProcedureTree)
      → OfProcedure H procedure_heading → Solely aim (procedure_signature frame procedure_heading)
  procedure_signature-plain kept frame (tree.procedure_heading word name formals) i =
      bind-solely (procedure_row-plain kept.plain word name formals) (λ _. places_of-plain kept frame formals i)

  pub function_signature-plain : {aim : Aim} {H : HeadingTree → Type 0} (kept : Formals aim H) (around frame : ℕ) (function_heading : FunctionTree)
      → OfFunction H function_heading → Solely aim (function_signature around frame function_heading)
  function_signature-plain kept around frame (tree.function_heading word name formals result) i =
      bind-solely (function_row-plain kept.plain around word name formals result) (λ _. places_of-plain kept frame formals i)

  pub places_of-plain : {aim : Aim} {H : HeadingTree → Type 0} (kept : Formals aim H) (frame : ℕ) (formals : HeldFormals)
      → OfFormals H formals → Solely aim (places_of frame formals)
  places_of-plain kept frame tree.without_formals i = give-solely 1
  places_of-plain kept frame (tree.some_formals f) i = places-plain kept frame f i

  pub places-plain : {aim : Aim} {H : HeadingTree → Type 0} (kept : Formals aim H) (frame : ℕ) (formals : FormalsTree) → OfFormalList H formals
      → Solely aim (places frame formals)
  places-plain kept frame (tree.formal_list open' first others close) i =
      bind-solely (formal_place-plain kept frame 1 first i.0) (λ next. more_places-plain kept frame next others i.1)

  pub more_places-plain : {aim : Aim} {H : HeadingTree → Type 0} (kept : Formals aim H) (frame at : ℕ) (next_formal : FormalTrees)
      → OfOtherFormals H next_formal → Solely aim (more_places frame at next_formal)
  more_places-plain kept frame at tree.end_of_formals i = give-solely at
  more_places-plain kept frame at (tree.more_formals semicolon formal rest) i =
      bind-solely (formal_place-plain kept frame at formal i.0) (λ next. more_places-plain kept frame next rest i.1)

  pub formal_place-plain : {aim : Aim} {H : HeadingTree → Type 0} (kept : Formals aim H) (frame at : ℕ) (formal : FormalTree)
      → OfFormal H formal → Solely aim (formal_place frame at formal)
  formal_place-plain kept frame at (tree.value_formals f) i = parameters-plain kept.plain Mode.Value frame at f
  formal_place-plain kept frame at (tree.variable_formals word f) i = parameters-plain kept.plain Mode.Place frame at f
  formal_place-plain kept frame at (tree.a_routine_formal h) i = bind-solely (routine_formal-plain kept.plain frame at h)
      (λ _. bind-solely (open_heading-told kept frame h i.0) (λ inner. bind-solely (signature-plain kept frame inner h i.1)
      (λ _. give-solely (frame_capped (at + 1)))))
