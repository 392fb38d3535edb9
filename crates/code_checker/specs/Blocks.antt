-- The statements of blocks, those of the routines first, as in the text (6.2.1).
use Rattle.std.specs.Prelude.{ℕ, Bool}
use Rattle.pas_tree.specs.{HeadingPlaces.heading_name, HeadingTrees.heading_tree, declared.blocks.Routine.Routine}
use Rattle.pas_tree.specs.BlockTrees.{BlockTree, BodyTree, RoutineTree, RoutineTrees}
use Rattle.pas_tree.specs.BlockTrees as tree
use Rattle.pas_tree.specs.StatementTrees.{CompoundTree, compound_body}
use Rattle.check_steps.specs.Steps.{◌>>=◌, Step, enter_block, give, look}
use Rattle.check_steps.specs.declared.regions.Span.{Span}
use Rattle.denoter_checker.specs.Formals.{is_function}
use Rattle.decl_checker.specs.Routines.{own_frame}
use Rattle.statement_checker.specs.{Labels.reach_all, Statements.compound}
use Rattle.code_checker.specs.{CodePlaces.span_of, Results.function_result, Results.name_in_first}

-- the statement part of a block, seen from the block's frame
unfoldable pub statement_part : ℕ → Span → CompoundTree → Step (Unit {0})
statement_part frame span c = do
  _ ← enter_block span
  _ ← compound frame c
  give tt

abbrev mutual
  -- the block of a frame; from its routines a goto may reach its outermost statements
  pub code_block : ℕ → BlockTree → Step (Unit {0})
  code_block frame (tree.a_block labels constants types variables routines body) = do
    _ ← reach_all frame (compound_body body)
    _ ← code_routines routines
    statement_part frame (span_of (tree.a_block labels constants types variables routines body)) body

  pub code_routines : RoutineTrees → Step (Unit {0})
  code_routines tree.end_of_routines = give tt
  code_routines (tree.more_routines r rest) = do
    _ ← code_routine r
    code_routines rest

  pub code_routine : RoutineTree → Step (Unit {0})
  code_routine (tree.a_routine heading semicolon body last_semicolon) =
      code_body (is_function heading) (heading_name heading) body

  -- what stands after the heading of a function or a procedure with this name
  pub code_body : Bool → ℕ → BodyTree → Step (Unit {0})
  code_body function name (tree.a_directive directive) = give tt
  code_body function name (tree.a_block_body b) = do
    frame ← look (λ k. own_frame k (name_in_first k name))
    _ ← code_block frame b
    function_result function name

-- one more of what the code holds
unfoldable pub code_next_routine : Unit {0} → Routine → Step (Unit {0})
code_next_routine u r =
    code_body (is_function (heading_tree r.heading)) (heading_name (heading_tree r.heading)) (tree.body_tree r.body)
