-- What the steps of `Rattle.decl_checker.specs.Routines` keep.
use Rattle.std.proofs.Common.{ℕ, Bool, None, Option, Some, false}
use Rattle.pas_tree.specs.{HeadingPlaces.heading_name, HeadingTrees.HeadingTree, StatementPlaces.compound_word}
use Rattle.pas_tree.specs.BlockTrees.{BlockTree, BodyTree, RoutineTree, RoutineTrees, routine_body, routine_heading}
use Rattle.pas_tree.specs.BlockTrees as tree
use Rattle.pas_tree.specs.TreeNodes.{block_node, body_node, heading_node, routine_node, routines_node}
use Rattle.core_program.specs.declared.rows.{NameRow.NameRow, Row.Row}
use Rattle.check_steps.specs.Known.{frame_at, row_at}
use Rattle.denoter_checker.specs.{Formals.is_function, RoutineParts.completion_of, RoutineParts.routine_name}
use Rattle.decl_checker.specs.Routines.{add_heading, block, body_in, define_body, define_completion, define_inside, enter_at, enter_heading, first_heading}
use Rattle.decl_checker.specs.Routines.{first_name, heading_row, one_deeper, open_routine, place_after_result, resumed, routine, routines_in}
use Rattle.decl_checker.specs.declared.routines.Entered.{Entered}
use Rattle.code_checker.proofs.{DeclareStatements.compound_uses-holds, DenoterFormals.define_formals_at-holds, DenoterHeadings.signature-holds}
use Rattle.code_checker.proofs.{Nodes.completion_node, Parts.completion_of-in, Parts.routine_body-in, Parts.routine_heading-in, Within.Within}
use Rattle.code_checker.proofs.DeclareBlocks.{define_block-holds, parts-holds, put_body-holds}
use Rattle.code_checker.proofs.Steps.{Holds, add_routine-holds, bind-holds, give-holds, look-holds, looked-holds, open_region-holds, put-holds}

pub open_routine-holds : {size : ℕ} {later : Bool} (frame : ℕ) (name : ℕ) → Holds size later (open_routine frame name)
unfolding open_routine
open_routine-holds frame name = bind-holds (look-holds (λ k. one_deeper (frame_at k frame).level)) (λ level. open_region-holds name (Some frame) level)

pub define_body-holds : {size : ℕ} (frame : ℕ) (routine_body : BodyTree) → Within size (body_node routine_body)
    → Holds size false (define_body frame routine_body)
define_body-holds frame (tree.a_directive directive) routine_body-in = give-holds tt
define_body-holds frame (tree.a_block_body b) routine_body-in = define_block-holds frame b routine_body-in

pub define_completion-holds : {size : ℕ} (frame : ℕ) (routine' : Option RoutineTree) → Within size (completion_node routine')
    → Holds size false (define_completion frame routine')
define_completion-holds frame None routine-in = give-holds tt
define_completion-holds {size = size} frame (Some r) routine-in = define_body-holds frame (routine_body r) (routine_body-in size r routine-in)

pub define_inside-holds : {size : ℕ} (frame : ℕ) (h : HeadingTree) (body : BodyTree) (completion : Option RoutineTree) → Within size (heading_node h)
    → Within size (body_node body) → Within size (completion_node completion) → Holds size false (define_inside frame h body completion)
unfolding define_inside
define_inside-holds frame h body completion h-in body-in completion-in = bind-holds (define_formals_at-holds frame h h-in) (λ _.
    bind-holds (define_body-holds frame body body-in) (λ _. define_completion-holds frame completion completion-in))

pub add_heading-holds : {size : ℕ} {later : Bool} (frame : ℕ) (h : HeadingTree) (end : ℕ) → Within size (heading_node h)
    → Holds size later (add_heading frame h end)
unfolding add_heading
add_heading-holds frame h end h-in = bind-holds (look-holds (λ k. frame_at k frame)) (λ here. bind-holds (add_routine-holds (heading_row h here.level end))
    (λ number. bind-holds (put-holds (heading_name h) (Row.Name (NameRow.Routine false number here.region))) (λ _. give-holds number)))

pub first_heading-holds : {size : ℕ} (frame : ℕ) (rs : RoutineTrees) (r : RoutineTree) → Within size (routines_node rs) → Within size (routine_node r)
    → Holds size false (first_heading frame rs r)
unfolding first_heading
first_heading-holds {size = size} frame rs r rs-in r-in = looked-holds (λ c. Within size (completion_node c)) (λ k. completion_of k rs r)
    (λ k t. completion_of-in size k rs r rs-in) (λ completion completion-in. bind-holds (open_routine-holds frame (routine_name r)) (λ inner.
    bind-holds (define_inside-holds inner (routine_heading r) (routine_body r) completion (routine_heading-in size r r-in) (routine_body-in size r r-in)
    completion-in) (λ _.
    bind-holds (signature-holds frame inner (routine_heading r) (routine_heading-in size r r-in)) (λ end.
    bind-holds (add_heading-holds inner (routine_heading r) end (routine_heading-in size r r-in)) (λ number.
    give-holds (record { number = number; frame = inner; place = place_after_result (is_function (routine_heading r)) end }))))))

pub enter_at-holds : {size : ℕ} (x : Option ℕ) (frame : ℕ) (rs : RoutineTrees) (r : RoutineTree) → Within size (routines_node rs)
    → Within size (routine_node r) → Holds size false (enter_at x frame rs r)
enter_at-holds None frame rs r rs-in r-in = first_heading-holds frame rs r rs-in r-in
enter_at-holds (Some first) frame rs r rs-in r-in = look-holds (λ k. resumed k first)

pub enter_heading-holds : {size : ℕ} (frame : ℕ) (rs : RoutineTrees) (r : RoutineTree) → Within size (routines_node rs) → Within size (routine_node r)
    → Holds size false (enter_heading frame rs r)
unfolding enter_heading
enter_heading-holds frame rs r rs-in r-in = bind-holds (look-holds (λ k. first_name (row_at k (routine_name r)))) (λ first.
    enter_at-holds first frame rs r rs-in r-in)

mutual
  pub block-holds : {size : ℕ} (frame : ℕ) (number : ℕ) (place : ℕ) (block' : BlockTree) → Within size (block_node block')
      → Holds size false (block frame number place block')
  block-holds {size = size} frame number place (tree.a_block labels constants types variables routines body) block-in =
      bind-holds (parts-holds frame place (tree.a_block labels constants types variables routines body) block-in) (λ end.
      bind-holds (put_body-holds number end (compound_word body)) (λ _.
      bind-holds (routines_in-holds frame routines routines block-in.1.1.1.1.0 block-in.1.1.1.1.0) (λ _. compound_uses-holds frame body block-in.1.1.1.1.1)))

  pub routines_in-holds : {size : ℕ} (frame : ℕ) (rs : RoutineTrees) (routine' : RoutineTrees) → Within size (routines_node rs)
      → Within size (routines_node routine') → Holds size false (routines_in frame rs routine')
  routines_in-holds frame rs tree.end_of_routines rs-in routine-in = give-holds tt
  routines_in-holds frame rs (tree.more_routines r rest) rs-in routine-in =
      bind-holds (routine-holds frame rs r rs-in routine-in.0) (λ _. routines_in-holds frame rs rest rs-in routine-in.1)

  pub routine-holds : {size : ℕ} (frame : ℕ) (rs : RoutineTrees) (r : RoutineTree) → Within size (routines_node rs) → Within size (routine_node r)
      → Holds size false (routine frame rs r)
  routine-holds frame rs (tree.a_routine heading semicolon body last_semicolon) rs-in r-in =
      bind-holds (enter_heading-holds frame rs (tree.a_routine heading semicolon body last_semicolon) rs-in r-in) (λ e. body_in-holds e body r-in.1.1.0)

  pub body_in-holds : {size : ℕ} (e : Entered) (routine_body : BodyTree) → Within size (body_node routine_body) → Holds size false (body_in e routine_body)
  body_in-holds e (tree.a_directive directive) routine_body-in = give-holds tt
  body_in-holds e (tree.a_block_body b) routine_body-in = block-holds e.frame e.number e.place b routine_body-in
