-- What the steps of `Rattle.decl_checker.specs.Routines` leave at other tokens.
use Rattle.std.proofs.Common.{ℕ, None, Option, Some, false, suc, zero}
use Rattle.pas_tree.specs.{HeadingPlaces.heading_name, HeadingTrees.HeadingTree, StatementPlaces.compound_word}
use Rattle.pas_tree.specs.BlockTrees.{BlockTree, BodyTree, RoutineTree, RoutineTrees, routine_body, routine_heading}
use Rattle.pas_tree.specs.BlockTrees as tree
use Rattle.pas_tree.specs.TreeNodes.{block_node, body_node, heading_node, routine_node, routines_node}
use Rattle.core_program.specs.declared.rows.{NameRow.NameRow, Row.Row}
use Rattle.check_steps.specs.{Known.frame_at, Known.row_at, Steps.◌>>=◌, Steps.look}
use Rattle.denoter_checker.specs.Formals.{is_function}
use Rattle.denoter_checker.specs.RoutineParts.{block_in, completion_of, routine_at, routine_if_any, routine_name}
use Rattle.decl_checker.specs.{Blocks.define_block, declared.routines.Entered.Entered}
use Rattle.decl_checker.specs.Routines.{add_heading, block, body_in, define_body, define_completion, define_inside, enter_at, enter_heading, first_heading}
use Rattle.decl_checker.specs.Routines.{first_name, heading_row, one_deeper, open_routine, place_after_result, resumed, routine, routines_in}
use Rattle.rule_laws.proofs.{Every.Every, LastsRoutines.after_completion, LeavesFormals.define_formals_at-leaves, LeavesHeadings.signature-leaves}
use Rattle.rule_laws.proofs.{LeavesLabels.define_labels-leaves, LeavesStatements.compound_uses-leaves, TokenPlaces.heading_name-in}
use Rattle.rule_laws.proofs.Leaves.{Leaves, add_routine-leaves, bind-leaves, give-leaves, look-leaves, open_region-leaves, put-leaves}
use Rattle.rule_laws.proofs.LeavesBlocks.{define_constants-leaves, define_types-leaves, define_variables-leaves, parts-leaves, put_body-leaves}
use Rattle.rule_laws.proofs.LeavesRoutineParts.{define_routines-leaves, routine_parts}

define_block-leaves : {Q : ℕ → Type 0} (frame : ℕ) (b : BlockTree) → Every Q (block_node b) → Leaves Q (define_block frame b)
define_block-leaves frame (tree.a_block labels consts kinds variable_part routines body) b-in =
    bind-leaves (look-leaves (λ k. frame_at k frame)) (λ here. bind-leaves (define_labels-leaves here labels b-in.0) (λ _.
    bind-leaves (define_constants-leaves here.region consts b-in.1.0) (λ _. bind-leaves (define_types-leaves here.region kinds b-in.1.1.0) (λ _.
    bind-leaves (define_variables-leaves here.region variable_part b-in.1.1.1.0) (λ _. define_routines-leaves here.region routines b-in.1.1.1.1.0)))))

define_body-leaves : {Q : ℕ → Type 0} (frame : ℕ) (body : BodyTree) → Every Q (body_node body) → Leaves Q (define_body frame body)
define_body-leaves frame (tree.a_directive directive) body-in = give-leaves tt
define_body-leaves frame (tree.a_block_body b) body-in = define_block-leaves frame b body-in

abbrev pub EveryBy : (ℕ → Type 0) → Option RoutineTree → Type 0
EveryBy Q None = Unit {0}
EveryBy Q (Some r) = Every Q (body_node (routine_body r))

define_completion-leaves : {Q : ℕ → Type 0} (frame : ℕ) (o : Option RoutineTree) → EveryBy Q o → Leaves Q (define_completion frame o)
define_completion-leaves frame None o-in = give-leaves tt
define_completion-leaves frame (Some r) o-in = define_body-leaves frame (routine_body r) o-in

at-every : (Q : ℕ → Type 0) (rs : RoutineTrees) (n : ℕ) → Every Q (routines_node rs) → EveryBy Q (routine_at rs n)
at-every Q tree.end_of_routines n rs-in = tt
at-every Q (tree.more_routines r rest) zero rs-in = (routine_parts Q r rs-in.0).1
at-every Q (tree.more_routines r rest) (suc n) rs-in = at-every Q rest n rs-in.1

if-every : (Q : ℕ → Type 0) (rs : RoutineTrees) (o : Option ℕ) → Every Q (routines_node rs) → EveryBy Q (routine_if_any rs o)
if-every Q rs None rs-in = tt
if-every Q rs (Some n) rs-in = at-every Q rs n rs-in

define_inside-leaves : {Q : ℕ → Type 0} (frame : ℕ) (h : HeadingTree) (body : BodyTree) (o : Option RoutineTree) → Every Q (heading_node h)
    → Every Q (body_node body) → EveryBy Q o → Leaves Q (define_inside frame h body o)
unfolding define_inside
define_inside-leaves frame h body o h-in body-in o-in = bind-leaves (define_formals_at-leaves frame h h-in) (λ _.
    bind-leaves (define_body-leaves frame body body-in) (λ _. define_completion-leaves frame o o-in))

pub add_heading-leaves : {Q : ℕ → Type 0} (frame : ℕ) (h : HeadingTree) (end : ℕ) → Every Q (heading_node h) → Leaves Q (add_heading frame h end)
unfolding add_heading
add_heading-leaves frame h end h-in = bind-leaves (look-leaves (λ k. frame_at k frame)) (λ here.
    bind-leaves (add_routine-leaves (heading_row h here.level end)) (λ number.
    bind-leaves (put-leaves (heading_name h) (Row.Name (NameRow.Routine false number here.region)) (heading_name-in h h-in)) (λ _. give-leaves number)))

pub after_completion-leaves : {Q : ℕ → Type 0} (frame : ℕ) (r : RoutineTree) (o : Option RoutineTree) → Every Q (routine_node r) → EveryBy Q o
    → Leaves Q (after_completion frame r o)
unfolding open_routine
after_completion-leaves {Q = Q} frame r o r-in o-in =
    let h = routine_heading r in
    let parts = routine_parts Q r r-in in
    bind-leaves (bind-leaves (look-leaves (λ k. one_deeper (frame_at k frame).level)) (λ level. open_region-leaves (routine_name r) (Some frame) level))
    (λ inner. bind-leaves (define_inside-leaves inner h (routine_body r) o parts.0 parts.1 o-in) (λ _.
    bind-leaves (signature-leaves frame inner h parts.0) (λ end. bind-leaves (add_heading-leaves inner h end parts.0) (λ number.
    give-leaves (record { number = number; frame = inner; place = place_after_result (is_function h) end })))))

first_heading-leaves : {Q : ℕ → Type 0} (frame : ℕ) (rs : RoutineTrees) (r : RoutineTree) → Every Q (routines_node rs) → Every Q (routine_node r)
    → Leaves Q (first_heading frame rs r)
unfolding first_heading look ◌>>=◌
first_heading-leaves {Q = Q} frame rs r rs-in r-in = record {
  of = λ k n off fast. (after_completion-leaves frame r (completion_of k rs r) r-in (if-every Q rs (block_in (row_at k (routine_name r))) rs-in)).of k n off
      fast;
}

enter_at-leaves : {Q : ℕ → Type 0} (o : Option ℕ) (frame : ℕ) (rs : RoutineTrees) (r : RoutineTree) → Every Q (routines_node rs) → Every Q (routine_node r)
    → Leaves Q (enter_at o frame rs r)
enter_at-leaves None frame rs r rs-in r-in = first_heading-leaves frame rs r rs-in r-in
enter_at-leaves (Some first) frame rs r rs-in r-in = look-leaves (λ k. resumed k first)

pub enter_heading-leaves : {Q : ℕ → Type 0} (frame : ℕ) (rs : RoutineTrees) (r : RoutineTree) → Every Q (routines_node rs) → Every Q (routine_node r)
    → Leaves Q (enter_heading frame rs r)
unfolding enter_heading
enter_heading-leaves frame rs r rs-in r-in = bind-leaves (look-leaves (λ k. first_name (row_at k (routine_name r)))) (λ first.
    enter_at-leaves first frame rs r rs-in r-in)

mutual
  pub block-leaves : {Q : ℕ → Type 0} (frame number place : ℕ) (b : BlockTree) → Every Q (block_node b) → Leaves Q (block frame number place b)
  block-leaves frame number place (tree.a_block labels constants types variables routines body) b-in =
      bind-leaves (parts-leaves frame place (tree.a_block labels constants types variables routines body) b-in) (λ end.
      bind-leaves (put_body-leaves number end (compound_word body)) (λ _.
      bind-leaves (routines_in-leaves frame routines routines b-in.1.1.1.1.0 b-in.1.1.1.1.0) (λ _. compound_uses-leaves frame body b-in.1.1.1.1.1)))

  pub routines_in-leaves : {Q : ℕ → Type 0} (frame : ℕ) (rs part : RoutineTrees) → Every Q (routines_node rs) → Every Q (routines_node part)
      → Leaves Q (routines_in frame rs part)
  routines_in-leaves frame rs tree.end_of_routines rs-in part-in = give-leaves tt
  routines_in-leaves frame rs (tree.more_routines r rest) rs-in part-in =
      bind-leaves (routine-leaves frame rs r rs-in part-in.0) (λ _. routines_in-leaves frame rs rest rs-in part-in.1)

  pub routine-leaves : {Q : ℕ → Type 0} (frame : ℕ) (rs : RoutineTrees) (r : RoutineTree) → Every Q (routines_node rs) → Every Q (routine_node r)
      → Leaves Q (routine frame rs r)
  routine-leaves frame rs (tree.a_routine heading semicolon body last_semicolon) rs-in r-in =
      bind-leaves (enter_heading-leaves frame rs (tree.a_routine heading semicolon body last_semicolon) rs-in r-in) (λ e. body_in-leaves e body r-in.1.1.0)

  body_in-leaves : {Q : ℕ → Type 0} (e : Entered) (body : BodyTree) → Every Q (body_node body) → Leaves Q (body_in e body)
  body_in-leaves e (tree.a_directive directive) body-in = give-leaves tt
  body_in-leaves e (tree.a_block_body b) body-in = block-leaves e.frame e.number e.place b body-in
