-- What the steps of declarations leave at other tokens, those of statements among them.
use Rattle.std.proofs.Common.{◌∙◌, ◌≡◌, ℕ, None, Option, Some, ap, false, inl, inr, not, refl, subst, suc, sym, true, zero}
use Rattle.pas_tree.specs.{HeadingPlaces.heading_name, HeadingTrees.HeadingTree, StatementPlaces.compound_word}
use Rattle.pas_tree.specs.BlockTrees.{BlockTree, BodyTree, RoutineTree, RoutineTrees, routine_body, routine_heading}
use Rattle.pas_tree.specs.BlockTrees as tree
use Rattle.pas_tree.specs.TreeNodes.{constant_part_node, heading_node, label_part_node, type_part_node, variable_part_node}
use Rattle.core_program.specs.declared.rows.{NameRow.NameRow, PartRow.PartRow, Row.Row}
use Rattle.check_steps.specs.{Known.Known, Known.frame_at, Known.row_at, Known.with_row, Steps.◌>>=◌, Steps.give, Steps.look, declared.regions.Def.Def}
use Rattle.denoter_checker.specs.{Formals.is_complete, Formals.is_function, RoutineParts.routine_if_any, RoutineParts.routine_name}
use Rattle.denoter_checker.specs.RoutineParts.{block_in, complete_or_define, completed_by, completion_of, define_each_routine, define_heading, define_routine}
use Rattle.denoter_checker.specs.RoutineParts.{define_routines, defining, directed, directive_in, has_block, have_blocks, is_forward, is_waiting, routine_at}
use Rattle.decl_checker.specs.{Blocks.define_block, Blocks.parts, Blocks.word_after, declared.routines.Entered.Entered}
use Rattle.decl_checker.specs.Routines.{add_heading, block, body_in, define_body, define_completion, define_inside, enter_at, enter_heading, first_heading}
use Rattle.decl_checker.specs.Routines.{first_name, heading_row, one_deeper, open_routine, place_after_result, resumed, routine, routines_in}
use Rattle.rule_laws.proofs.{Every.Every, Every.Of, Faces.row_either, LastsRoutineParts.completed, LastsRoutines.after_completion, Leaves.when-leaves}
use Rattle.rule_laws.proofs.{LeavesBlocks.types-leaves, LeavesBlocks.variables-leaves, LeavesFormals.define_formals_at-leaves, LeavesHeadings.signature-leaves}
use Rattle.rule_laws.proofs.{LeavesLabels.define_labels-leaves, LeavesNames.define_in-leaves, LeavesStatements.compound_any-leaves, TextHeadings.awaited}
use Rattle.rule_laws.proofs.{TextHeadings.completed_found, TokenPlaces.heading_name-in}
use Rattle.rule_laws.proofs.Leaves.{Leaves, add_routine-leaves, bind-leaves, early-leaves, give-leaves, is_fast, look-leaves, open_region-leaves, put-leaves}
use Rattle.rule_laws.proofs.LeavesBlocks.{constants-leaves, define_constants-leaves, define_types-leaves, define_variables-leaves, put_body-leaves}

-- This holds of each token of the declarations of a block, and of those in its procedures and functions.
abbrev mutual
  pub Declares : (ℕ → Type 0) → BlockTree → Type 0
  Declares Q (tree.a_block labels constants types variables routines body) =
      Every Q (label_part_node labels) × Every Q (constant_part_node constants) × Every Q (type_part_node types) × Every Q (variable_part_node variables)
      × DeclaresIn Q routines

  pub DeclaresIn : (ℕ → Type 0) → RoutineTrees → Type 0
  DeclaresIn Q tree.end_of_routines = Unit {0}
  DeclaresIn Q (tree.more_routines r rest) = DeclaresOf Q r × DeclaresIn Q rest

  pub DeclaresOf : (ℕ → Type 0) → RoutineTree → Type 0
  DeclaresOf Q (tree.a_routine heading semicolon body last_semicolon) = Every Q (heading_node heading) × DeclaresBody Q body

  pub DeclaresBody : (ℕ → Type 0) → BodyTree → Type 0
  DeclaresBody Q (tree.a_directive directive) = Of Q directive
  DeclaresBody Q (tree.a_block_body b) = Declares Q b

-- ---- parts with procedures and functions

define_heading-declared : {Q : ℕ → Type 0} (region : ℕ) (h : HeadingTree) → Every Q (heading_node h) → Leaves Q (define_heading region h)
unfolding define_heading
define_heading-declared region h h-in = bind-leaves
    (define_in-leaves region (record { def = Def.Routine (heading_name h); token = heading_name h; end = heading_name h }) (heading_name-in h h-in))
    (λ _. early-leaves 9 (heading_name h) (is_complete h) (heading_name-in h h-in))

directive_in-declared : {Q : ℕ → Type 0} (h : HeadingTree) (body : BodyTree) → Every Q (heading_node h) → DeclaresBody Q body → Leaves Q (directive_in h body)
unfolding directed
directive_in-declared h (tree.a_directive directive) h-in body-in = bind-leaves (look-leaves (λ k. is_forward k directive)) (λ forward.
    bind-leaves (early-leaves 10 directive forward body-in) (λ _.
    when-leaves forward (put-leaves (heading_name h) (Row.Part (PartRow.Forward (is_function h) None)) (heading_name-in h h-in))))
directive_in-declared h (tree.a_block_body b) h-in body-in = give-leaves tt

defining-declared : {Q : ℕ → Type 0} (region : ℕ) (h : HeadingTree) (body : BodyTree) → Every Q (heading_node h) → DeclaresBody Q body
    → Leaves Q (defining region h body)
unfolding defining
defining-declared region h body h-in body-in = bind-leaves (define_heading-declared region h h-in) (λ _. directive_in-declared h body h-in body-in)

-- one that completes another puts its rows at its own name, and at one that waits
turn-declared : {Q : ℕ → Type 0} (region position : ℕ) (h : HeadingTree) (body : BodyTree) → Every Q (heading_node h) → DeclaresBody Q body → (k : Known)
    (n : ℕ) → (Of Q n → ⊥) → is_fast (row_at k n) ≡ true → (o : Option ℕ) → completed_by k region h body ≡ o
    → row_at (complete_or_define o region position h body k).known n ≡ row_at k n
turn-declared region position h body h-in body-in k n off fast None e = (defining-declared region h body h-in body-in).of k n off fast
turn-declared {Q = Q} region position h body h-in body-in k n off fast (Some first) e =
    let settled = Row.Part (PartRow.Forward (is_function h) (Some position)) in
    let f = completed_found k region h body first e in
    let w = awaited (is_function h) (row_at k first) f.waiting in
    ap (λ (j : Known). row_at j n) (completed first position h k)
    ∙ elim (row_either (with_row k first settled) (heading_name h) n (Row.Part (PartRow.Completing first))) [
      | inl old ↦ old ∙ elim (row_either k first n settled) [
        | inl same ↦ same
        | inr new ↦ absurd (
            let waits : is_fast (row_at k n) ≡ false = ap (λ x. is_fast (row_at k x)) new.0 ∙ ap is_fast w.is in
            let never : true ≡ false = sym fast ∙ waits in cc)
      ]
      | inr new ↦ absurd (off (subst (Of Q) (sym new.0) (heading_name-in h h-in)))
    ]

pub routine_parts : (Q : ℕ → Type 0) (r : RoutineTree) → DeclaresOf Q r → Every Q (heading_node (routine_heading r)) × DeclaresBody Q (routine_body r)
routine_parts Q (tree.a_routine heading semicolon body last_semicolon) h = h

define_routine-declared : {Q : ℕ → Type 0} (region position : ℕ) (r : RoutineTree) → DeclaresOf Q r → Leaves Q (define_routine region position r)
unfolding define_routine look give ◌>>=◌
define_routine-declared {Q = Q} region position r r-in = record {
  of = λ k n off fast.
      let h = routine_heading r in
      let body = routine_body r in
      let parts = routine_parts Q r r-in in
      turn-declared region position h body parts.0 parts.1 k n off fast (completed_by k region h body) refl;
}

each_routine-declared : {Q : ℕ → Type 0} (region position : ℕ) (rs : RoutineTrees) → DeclaresIn Q rs
    → Leaves Q (define_each_routine region position rs)
each_routine-declared region position tree.end_of_routines rs-in = give-leaves position
each_routine-declared region position (tree.more_routines r rest) rs-in =
    bind-leaves (define_routine-declared region position r rs-in.0) (λ next. each_routine-declared region next rest rs-in.1)

have_blocks-declared : {Q : ℕ → Type 0} (rs : RoutineTrees) → DeclaresIn Q rs → Leaves Q (have_blocks rs)
unfolding has_block
have_blocks-declared tree.end_of_routines rs-in = give-leaves tt
have_blocks-declared {Q = Q} (tree.more_routines r rest) rs-in =
    bind-leaves (bind-leaves (look-leaves (λ k. is_waiting (row_at k (routine_name r)))) (λ waiting.
    early-leaves 8 (routine_name r) (not waiting) (heading_name-in (routine_heading r) (routine_parts Q r rs-in.0).0)))
    (λ _. have_blocks-declared rest rs-in.1)

pub define_routines-declared : {Q : ℕ → Type 0} (region : ℕ) (rs : RoutineTrees) → DeclaresIn Q rs → Leaves Q (define_routines region rs)
define_routines-declared region rs rs-in = bind-leaves (each_routine-declared region 0 rs rs-in) (λ _. have_blocks-declared rs rs-in)

-- ---- blocks

pub define_block-declared : {Q : ℕ → Type 0} (frame : ℕ) (b : BlockTree) → Declares Q b → Leaves Q (define_block frame b)
define_block-declared frame (tree.a_block labels consts kinds variable_part routines body) b-in =
    bind-leaves (look-leaves (λ k. frame_at k frame)) (λ here. bind-leaves (define_labels-leaves here labels b-in.0) (λ _.
    bind-leaves (define_constants-leaves here.region consts b-in.1) (λ _. bind-leaves (define_types-leaves here.region kinds b-in.2) (λ _.
    bind-leaves (define_variables-leaves here.region variable_part b-in.3) (λ _. define_routines-declared here.region routines b-in.4)))))

define_body-declared : {Q : ℕ → Type 0} (frame : ℕ) (body : BodyTree) → DeclaresBody Q body → Leaves Q (define_body frame body)
define_body-declared frame (tree.a_directive directive) body-in = give-leaves tt
define_body-declared frame (tree.a_block_body b) body-in = define_block-declared frame b body-in

abbrev EveryBy : (ℕ → Type 0) → Option RoutineTree → Type 0
EveryBy Q None = Unit {0}
EveryBy Q (Some r) = DeclaresBody Q (routine_body r)

define_completion-declared : {Q : ℕ → Type 0} (frame : ℕ) (o : Option RoutineTree) → EveryBy Q o → Leaves Q (define_completion frame o)
define_completion-declared frame None o-in = give-leaves tt
define_completion-declared frame (Some r) o-in = define_body-declared frame (routine_body r) o-in

at-every : (Q : ℕ → Type 0) (rs : RoutineTrees) (n : ℕ) → DeclaresIn Q rs → EveryBy Q (routine_at rs n)
at-every Q tree.end_of_routines n rs-in = tt
at-every Q (tree.more_routines r rest) zero rs-in = (routine_parts Q r rs-in.0).1
at-every Q (tree.more_routines r rest) (suc n) rs-in = at-every Q rest n rs-in.1

if-every : (Q : ℕ → Type 0) (rs : RoutineTrees) (o : Option ℕ) → DeclaresIn Q rs → EveryBy Q (routine_if_any rs o)
if-every Q rs None rs-in = tt
if-every Q rs (Some n) rs-in = at-every Q rs n rs-in

define_inside-declared : {Q : ℕ → Type 0} (frame : ℕ) (h : HeadingTree) (body : BodyTree) (o : Option RoutineTree) → Every Q (heading_node h)
    → DeclaresBody Q body → EveryBy Q o → Leaves Q (define_inside frame h body o)
unfolding define_inside
define_inside-declared frame h body o h-in body-in o-in = bind-leaves (define_formals_at-leaves frame h h-in) (λ _.
    bind-leaves (define_body-declared frame body body-in) (λ _. define_completion-declared frame o o-in))

add_heading-declared : {Q : ℕ → Type 0} (frame : ℕ) (h : HeadingTree) (end : ℕ) → Every Q (heading_node h) → Leaves Q (add_heading frame h end)
unfolding add_heading
add_heading-declared frame h end h-in = bind-leaves (look-leaves (λ k. frame_at k frame)) (λ here.
    bind-leaves (add_routine-leaves (heading_row h here.level end)) (λ number.
    bind-leaves (put-leaves (heading_name h) (Row.Name (NameRow.Routine false number here.region)) (heading_name-in h h-in)) (λ _. give-leaves number)))

after_completion-declared : {Q : ℕ → Type 0} (frame : ℕ) (r : RoutineTree) (o : Option RoutineTree) → DeclaresOf Q r → EveryBy Q o
    → Leaves Q (after_completion frame r o)
unfolding open_routine
after_completion-declared {Q = Q} frame r o r-in o-in =
    let h = routine_heading r in
    let parts = routine_parts Q r r-in in
    bind-leaves (bind-leaves (look-leaves (λ k. one_deeper (frame_at k frame).level)) (λ level. open_region-leaves (routine_name r) (Some frame) level))
    (λ inner. bind-leaves (define_inside-declared inner h (routine_body r) o parts.0 parts.1 o-in) (λ _.
    bind-leaves (signature-leaves frame inner h parts.0) (λ end. bind-leaves (add_heading-declared inner h end parts.0) (λ number.
    give-leaves (record { number = number; frame = inner; place = place_after_result (is_function h) end })))))

first_heading-declared : {Q : ℕ → Type 0} (frame : ℕ) (rs : RoutineTrees) (r : RoutineTree) → DeclaresIn Q rs → DeclaresOf Q r
    → Leaves Q (first_heading frame rs r)
unfolding first_heading look ◌>>=◌
first_heading-declared {Q = Q} frame rs r rs-in r-in = record {
  of = λ k n off fast. (after_completion-declared frame r (completion_of k rs r) r-in (if-every Q rs (block_in (row_at k (routine_name r))) rs-in)).of k n off
      fast;
}

enter_at-declared : {Q : ℕ → Type 0} (o : Option ℕ) (frame : ℕ) (rs : RoutineTrees) (r : RoutineTree) → DeclaresIn Q rs → DeclaresOf Q r
    → Leaves Q (enter_at o frame rs r)
enter_at-declared None frame rs r rs-in r-in = first_heading-declared frame rs r rs-in r-in
enter_at-declared (Some first) frame rs r rs-in r-in = look-leaves (λ k. resumed k first)

pub enter_heading-declared : {Q : ℕ → Type 0} (frame : ℕ) (rs : RoutineTrees) (r : RoutineTree) → DeclaresIn Q rs → DeclaresOf Q r
    → Leaves Q (enter_heading frame rs r)
unfolding enter_heading
enter_heading-declared frame rs r rs-in r-in = bind-leaves (look-leaves (λ k. first_name (row_at k (routine_name r)))) (λ first.
    enter_at-declared first frame rs r rs-in r-in)

parts-declared : {Q : ℕ → Type 0} (frame place : ℕ) (b : BlockTree) → Declares Q b → Leaves Q (parts frame place b)
parts-declared frame place (tree.a_block labels consts kinds variable_part routines body) b-in =
    bind-leaves (constants-leaves frame consts b-in.1) (λ _. bind-leaves (types-leaves frame (word_after variable_part routines body) kinds b-in.2) (λ _.
    variables-leaves frame place variable_part b-in.3))

mutual
  pub block-declared : {Q : ℕ → Type 0} (frame number place : ℕ) (b : BlockTree) → Declares Q b → Leaves Q (block frame number place b)
  block-declared frame number place (tree.a_block labels constants types variables routines body) b-in =
      bind-leaves (parts-declared frame place (tree.a_block labels constants types variables routines body) b-in) (λ end.
      bind-leaves (put_body-leaves number end (compound_word body)) (λ _.
      bind-leaves (routines_in-declared frame routines routines b-in.4 b-in.4) (λ _. compound_any-leaves frame body)))

  routines_in-declared : {Q : ℕ → Type 0} (frame : ℕ) (rs part : RoutineTrees) → DeclaresIn Q rs → DeclaresIn Q part
      → Leaves Q (routines_in frame rs part)
  routines_in-declared frame rs tree.end_of_routines rs-in part-in = give-leaves tt
  routines_in-declared frame rs (tree.more_routines r rest) rs-in part-in =
      bind-leaves (routine-declared frame rs r rs-in part-in.0) (λ _. routines_in-declared frame rs rest rs-in part-in.1)

  pub routine-declared : {Q : ℕ → Type 0} (frame : ℕ) (rs : RoutineTrees) (r : RoutineTree) → DeclaresIn Q rs → DeclaresOf Q r
      → Leaves Q (routine frame rs r)
  routine-declared frame rs (tree.a_routine heading semicolon body last_semicolon) rs-in r-in =
      bind-leaves (enter_heading-declared frame rs (tree.a_routine heading semicolon body last_semicolon) rs-in r-in) (λ e. body_in-declared e body r-in.1)

  body_in-declared : {Q : ℕ → Type 0} (e : Entered) (body : BodyTree) → DeclaresBody Q body → Leaves Q (body_in e body)
  body_in-declared e (tree.a_directive directive) body-in = give-leaves tt
  body_in-declared e (tree.a_block_body b) body-in = block-declared e.frame e.number e.place b body-in
