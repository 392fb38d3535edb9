-- What the steps of `Rattle.decl_checker.specs.Routines` leave as it was.
use Rattle.std.proofs.Common.{◌∙◌, ◌∷◌, [], ℕ, None, Option, Some, ap, arith, length, suc, sym, zero}
use Rattle.std.proofs.lemmas.{List.length-append, Option.same_Some}
use Rattle.pas_tree.specs.{HeadingPlaces.heading_name, HeadingTrees.HeadingTree, StatementPlaces.compound_word}
use Rattle.pas_tree.specs.BlockTrees.{BlockTree, BodyTree, RoutineTree, RoutineTrees, routine_body, routine_heading}
use Rattle.pas_tree.specs.BlockTrees as tree
use Rattle.core_program.specs.declared.program.Routine.{Routine as RoutineRow}
use Rattle.check_steps.specs.Known.{Known, and_routine, frame_at, row_at}
use Rattle.check_steps.specs.Steps.{◌>>=◌, Step, change, extend, give, look}
use Rattle.denoter_checker.specs.{Formals.is_function, Headings.signature}
use Rattle.denoter_checker.specs.RoutineParts.{block_in, completion_of, routine_at, routine_if_any, routine_name}
use Rattle.decl_checker.specs.Routines.{add_heading, block, body_in, define_body, define_completion, define_inside, enter_at, enter_heading, first_heading}
use Rattle.decl_checker.specs.Routines.{first_name, heading_row, one_deeper, open_routine, place_after_result, resumed, routine, routines_in}
use Rattle.decl_checker.specs.declared.routines.Entered.{Entered}
use Rattle.rule_laws.proofs.{Breaks.Each, Keeping.Keeps, Keeping.bind-keeps, Keeping.give-keeps, Keeping.look-keeps, Lasting.Declaring, Lasting.Lasting}
use Rattle.rule_laws.proofs.{Lasting.open_region-lasts, LastsBlocks.define_block-lasts, LastsBlocks.parts-lasts, LastsBlocks.put_body-lasts}
use Rattle.rule_laws.proofs.{LastsFormals.define_formals_at-lasts, LastsHeadings.signature-lasts, LastsStatements.compound_uses-lasts, Standing.got_end}
use Rattle.rule_laws.specs.{ForwardHeadings.routines_in as listed, NameLaws.block_routines}
use Rattle.rule_laws.specs.TextParts.{OfBody, OfEach, OfRoutine, OfRoutines}

-- ---- the routines of a part

pub routine_own : (G : RoutineTree → Type 0) (r : RoutineTree) → OfRoutine G r → G r
routine_own G (tree.a_routine heading semicolon body last_semicolon) h = h.0

pub routine_inner : (G : RoutineTree → Type 0) (r : RoutineTree) → OfRoutine G r → OfBody G (routine_body r)
routine_inner G (tree.a_routine heading semicolon body last_semicolon) h = h.1

pub part_each : (G : RoutineTree → Type 0) (rs : RoutineTrees) → OfEach G rs → Each G (listed rs)
part_each G tree.end_of_routines h = tt
part_each G (tree.more_routines r rest) h = (routine_own G r h.0, part_each G rest h.1)

pub block_each : (G : RoutineTree → Type 0) (b : BlockTree) → OfRoutines G b → Each G (block_routines b)
block_each G (tree.a_block labels constants types variables routines body) h = part_each G routines h

-- the routine that completes a heading, if one does
abbrev pub OfCompletion : (RoutineTree → Type 0) → Option RoutineTree → Type 0
OfCompletion G None = Unit {0}
OfCompletion G (Some r) = OfBody G (routine_body r)

routine_each : (G : RoutineTree → Type 0) (rs : RoutineTrees) (n : ℕ) → OfEach G rs → OfCompletion G (routine_at rs n)
routine_each G tree.end_of_routines n h = tt
routine_each G (tree.more_routines r rest) zero h = routine_inner G r h.0
routine_each G (tree.more_routines r rest) (suc n) h = routine_each G rest n h.1

among_each : (G : RoutineTree → Type 0) (rs : RoutineTrees) (at : Option ℕ) → OfEach G rs → OfCompletion G (routine_if_any rs at)
among_each G rs None h = tt
among_each G rs (Some n) h = routine_each G rs n h

pub completion_each : (G : RoutineTree → Type 0) (k : Known) (rs : RoutineTrees) (r : RoutineTree) → OfEach G rs → OfCompletion G (completion_of k rs r)
completion_each G k rs r h = among_each G rs (block_in (row_at k (routine_name r))) h

-- ---- headings

pub open_routine-lasts : {G : RoutineTree → Type 0} {I : Known → Type 0} (c : Lasting G I) (frame name : ℕ) → Keeps I (open_routine frame name)
unfolding open_routine
open_routine-lasts c frame name =
    bind-keeps (look-keeps (λ k. one_deeper (frame_at k frame).level)) (λ level. open_region-lasts c name (Some frame) level)

pub define_body-lasts : {G : RoutineTree → Type 0} {I : Known → Type 0} (c : Declaring G I) (frame : ℕ) (body : BodyTree) → OfBody G body
    → Keeps I (define_body frame body)
define_body-lasts c frame (tree.a_directive directive) h = give-keeps tt
define_body-lasts {G = G} c frame (tree.a_block_body b) h = define_block-lasts c frame b (block_each G b h)

define_completion-lasts : {G : RoutineTree → Type 0} {I : Known → Type 0} (c : Declaring G I) (frame : ℕ) (o : Option RoutineTree) → OfCompletion G o
    → Keeps I (define_completion frame o)
define_completion-lasts c frame None h = give-keeps tt
define_completion-lasts c frame (Some r) h = define_body-lasts c frame (routine_body r) h

pub define_inside-lasts : {G : RoutineTree → Type 0} {I : Known → Type 0} (c : Declaring G I) (frame : ℕ) (h : HeadingTree) (body : BodyTree)
    (completion : Option RoutineTree) → OfBody G body → OfCompletion G completion → Keeps I (define_inside frame h body completion)
unfolding define_inside
define_inside-lasts c frame h body completion body-in completion-in = bind-keeps (define_formals_at-lasts c.kept frame h) (λ _.
    bind-keeps (define_body-lasts c frame body body-in) (λ _. define_completion-lasts c frame completion completion-in))

pub add_heading-lasts : {G : RoutineTree → Type 0} {I : Known → Type 0} (c : Declaring G I) (frame : ℕ) (h : HeadingTree) (end : ℕ)
    → Keeps I (add_heading frame h end)
unfolding add_heading look extend change give ◌>>=◌
add_heading-lasts c frame h end = record {
  of = λ k i.
      let here = frame_at k frame in
      let row = heading_row h here.level end in
      let number = length k.program.routines in
      let more = length-append k.program.routines (row ∷ []) in
      c.heads (and_routine k row) (heading_name h) number here.region
      (λ q there. ap (λ (r : RoutineRow). r.name) (sym (same_Some row q (sym (got_end k.program.routines row) ∙ there))))
      (omega (arith, more)) (c.kept.routines k row i);
}

-- what comes after the completion is known
abbrev pub after_completion : ℕ → RoutineTree → Option RoutineTree → Step Entered
after_completion frame r completion = open_routine frame (routine_name r) >>= λ inner.
    define_inside inner (routine_heading r) (routine_body r) completion >>= λ _.
    signature frame inner (routine_heading r) >>= λ end.
    add_heading inner (routine_heading r) end >>= λ number.
    give (record { number = number; frame = inner; place = place_after_result (is_function (routine_heading r)) end })

after_completion-lasts : {G : RoutineTree → Type 0} {I : Known → Type 0} (c : Declaring G I) (frame : ℕ) (r : RoutineTree) (completion : Option RoutineTree)
    → OfBody G (routine_body r) → OfCompletion G completion → Keeps I (after_completion frame r completion)
after_completion-lasts c frame r completion r-in completion-in = bind-keeps (open_routine-lasts c.kept frame (routine_name r)) (λ inner.
    bind-keeps (define_inside-lasts c inner (routine_heading r) (routine_body r) completion r-in completion-in) (λ _.
    bind-keeps (signature-lasts c.kept frame inner (routine_heading r)) (λ end. bind-keeps (add_heading-lasts c inner (routine_heading r) end) (λ number.
    give-keeps (record { number = number; frame = inner; place = place_after_result (is_function (routine_heading r)) end })))))

pub first_heading-lasts : {G : RoutineTree → Type 0} {I : Known → Type 0} (c : Declaring G I) (frame : ℕ) (rs : RoutineTrees) (r : RoutineTree)
    → OfEach G rs → OfBody G (routine_body r) → Keeps I (first_heading frame rs r)
unfolding first_heading look ◌>>=◌
first_heading-lasts {G = G} c frame rs r rs-in r-in = record {
  of = λ k i. (after_completion-lasts c frame r (completion_of k rs r) r-in (completion_each G k rs r rs-in)).of k i;
}

pub enter_at-lasts : {G : RoutineTree → Type 0} {I : Known → Type 0} (c : Declaring G I) (o : Option ℕ) (frame : ℕ) (rs : RoutineTrees) (r : RoutineTree)
    → OfEach G rs → OfBody G (routine_body r) → Keeps I (enter_at o frame rs r)
enter_at-lasts c None frame rs r rs-in r-in = first_heading-lasts c frame rs r rs-in r-in
enter_at-lasts c (Some first) frame rs r rs-in r-in = look-keeps (λ k. resumed k first)

pub enter_heading-lasts : {G : RoutineTree → Type 0} {I : Known → Type 0} (c : Declaring G I) (frame : ℕ) (rs : RoutineTrees) (r : RoutineTree)
    → OfEach G rs → OfBody G (routine_body r) → Keeps I (enter_heading frame rs r)
unfolding enter_heading
enter_heading-lasts c frame rs r rs-in r-in = bind-keeps (look-keeps (λ k. first_name (row_at k (routine_name r)))) (λ first.
    enter_at-lasts c first frame rs r rs-in r-in)

-- ---- blocks

mutual
  pub block-lasts : {G : RoutineTree → Type 0} {I : Known → Type 0} (c : Declaring G I) (frame number place : ℕ) (b : BlockTree) → OfRoutines G b
      → Keeps I (block frame number place b)
  block-lasts c frame number place (tree.a_block labels constants types variables routines body) h =
      bind-keeps (parts-lasts c.kept frame place (tree.a_block labels constants types variables routines body)) (λ end.
      bind-keeps (put_body-lasts c.kept number end (compound_word body)) (λ _.
      bind-keeps (routines_in-lasts c frame routines routines h h) (λ _. compound_uses-lasts c.kept frame body)))

  pub routines_in-lasts : {G : RoutineTree → Type 0} {I : Known → Type 0} (c : Declaring G I) (frame : ℕ) (rs : RoutineTrees) (part : RoutineTrees)
      → OfEach G rs → OfEach G part → Keeps I (routines_in frame rs part)
  routines_in-lasts c frame rs tree.end_of_routines rs-in h = give-keeps tt
  routines_in-lasts c frame rs (tree.more_routines r rest) rs-in h =
      bind-keeps (routine-lasts c frame rs r rs-in h.0) (λ _. routines_in-lasts c frame rs rest rs-in h.1)

  pub routine-lasts : {G : RoutineTree → Type 0} {I : Known → Type 0} (c : Declaring G I) (frame : ℕ) (rs : RoutineTrees) (r : RoutineTree)
      → OfEach G rs → OfRoutine G r → Keeps I (routine frame rs r)
  routine-lasts c frame rs (tree.a_routine heading semicolon body last_semicolon) rs-in h =
      bind-keeps (enter_heading-lasts c frame rs (tree.a_routine heading semicolon body last_semicolon) rs-in h.1) (λ e. body_in-lasts c e body h.1)

  pub body_in-lasts : {G : RoutineTree → Type 0} {I : Known → Type 0} (c : Declaring G I) (e : Entered) (body : BodyTree) → OfBody G body
      → Keeps I (body_in e body)
  body_in-lasts c e (tree.a_directive directive) h = give-keeps tt
  body_in-lasts c e (tree.a_block_body b) h = block-lasts c e.frame e.number e.place b h
