-- What the steps of `Rattle.code_checker.specs.Blocks` keep.
use Rattle.std.proofs.Common.{◌<◌, ℕ, Bool}
use Rattle.pas_tree.specs.{HeadingPlaces.heading_name, StatementTrees.CompoundTree, StatementTrees.compound_body}
use Rattle.pas_tree.specs.BlockTrees.{BlockTree, BodyTree, RoutineTree, RoutineTrees}
use Rattle.pas_tree.specs.BlockTrees as tree
use Rattle.pas_tree.specs.TreeNodes.{block_node, body_node, compound_node, routine_node, routines_node}
use Rattle.check_steps.specs.declared.regions.Span.{Span}
use Rattle.denoter_checker.specs.Formals.{is_function}
use Rattle.decl_checker.specs.Routines.{own_frame}
use Rattle.code_checker.proofs.{CodeResults.function_result-holds, Parts.compound-in, StatementLabels.reach_all-holds, StatementStatements.compound-holds}
use Rattle.code_checker.proofs.{TokenPlaces.heading_name-in, Within.Within}
use Rattle.code_checker.proofs.Steps.{Holds, bind-holds, enter_block-holds, give-holds, look-holds}
use Rattle.code_checker.specs.{CodePlaces.span_of, Results.name_in_first}
use Rattle.code_checker.specs.Blocks.{code_block, code_body, code_routine, code_routines, statement_part}

pub statement_part-holds : {size : ℕ} {later : Bool} (frame : ℕ) (span : Span) (c : CompoundTree) → Within size (compound_node c)
    → Holds size later (statement_part frame span c)
unfolding statement_part
statement_part-holds frame span c c-in = bind-holds (enter_block-holds span) (λ _. bind-holds (compound-holds frame c c-in) (λ _. give-holds tt))

mutual
  pub code_block-holds : {size : ℕ} {later : Bool} (frame : ℕ) (block : BlockTree) → Within size (block_node block) → Holds size later (code_block frame block)
  code_block-holds {size = size} frame (tree.a_block labels constants types variables routines body) block-in =
      bind-holds (reach_all-holds frame (compound_body body) (compound-in size body block-in.1.1.1.1.1)) (λ _.
      bind-holds (code_routines-holds routines block-in.1.1.1.1.0) (λ _.
      statement_part-holds frame (span_of (tree.a_block labels constants types variables routines body)) body block-in.1.1.1.1.1))

  pub code_routines-holds : {size : ℕ} {later : Bool} (routine : RoutineTrees) → Within size (routines_node routine)
      → Holds size later (code_routines routine)
  code_routines-holds tree.end_of_routines routine-in = give-holds tt
  code_routines-holds (tree.more_routines r rest) routine-in =
      bind-holds (code_routine-holds r routine-in.0) (λ _. code_routines-holds rest routine-in.1)

  pub code_routine-holds : {size : ℕ} {later : Bool} (routine : RoutineTree) → Within size (routine_node routine)
      → Holds size later (code_routine routine)
  code_routine-holds (tree.a_routine heading semicolon body last_semicolon) routine-in =
      code_body-holds (is_function heading) (heading_name heading) body (heading_name-in heading routine-in.0) routine-in.1.1.0

  pub code_body-holds : {size : ℕ} {later : Bool} (function : Bool) (name : ℕ) (routine_body : BodyTree) → name < size
      → Within size (body_node routine_body) → Holds size later (code_body function name routine_body)
  code_body-holds function name (tree.a_directive directive) name-in routine_body-in = give-holds tt
  code_body-holds function name (tree.a_block_body b) name-in routine_body-in = bind-holds (look-holds (λ k. own_frame k (name_in_first k name))) (λ frame.
      bind-holds (code_block-holds frame b routine_body-in) (λ _. function_result-holds function name name-in))
