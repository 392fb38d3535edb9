-- Whether a block assigns to a function (6.6.2, 6.8.2.2), and what stands in a block.
use Rattle.std.specs.Prelude.{◌++◌, ◌||◌, ◌∷◌, [], ℕ, Bool, List, false}
use Rattle.grammar.specs.Nodes.{Node, Nothing, Pair}
use Rattle.pas_tree.specs.{HeadingPlaces.heading_name, TreeNodes.compound_node}
use Rattle.pas_tree.specs.BlockTrees.{BlockTree, BodyTree, RoutineTrees}
use Rattle.pas_tree.specs.BlockTrees as tree
use Rattle.check_steps.specs.Known.{Known}
use Rattle.decl_checker.specs.Routines.{own_frame}
use Rattle.code_checker.specs.Results.{name_in_first}
use Rattle.rule_laws.specs.FunctionAssignments.{compound_assigns}

abbrev mutual
  -- Whether a statement of a block, seen from the block's frame, or of a routine in it, assigns to the function.
  pub block_assigns : Known → ℕ → ℕ → BlockTree → Bool
  block_assigns k function frame (tree.a_block labels constants types variables routines body) =
      routines_assign k function routines
      || compound_assigns (record { k = k; function = function; frame = frame }) [] body

  pub routines_assign : Known → ℕ → RoutineTrees → Bool
  routines_assign k function tree.end_of_routines = false
  routines_assign k function (tree.more_routines (tree.a_routine heading semicolon body last_semicolon) rest) =
      body_assigns k function (heading_name heading) body || routines_assign k function rest

  pub body_assigns : Known → ℕ → ℕ → BodyTree → Bool
  body_assigns k function name (tree.a_directive directive) = false
  body_assigns k function name (tree.a_block_body b) = block_assigns k function (own_frame k (name_in_first k name)) b

-- ---- the statements of a block and of the routines in it

abbrev mutual
  pub statements_within : BlockTree → Node
  statements_within (tree.a_block labels constants types variables routines body) =
      Pair (statements_of_routines routines) (compound_node body)

  pub statements_of_routines : RoutineTrees → Node
  statements_of_routines tree.end_of_routines = Nothing
  statements_of_routines (tree.more_routines (tree.a_routine heading semicolon body last_semicolon) rest) =
      Pair (statements_of_body body) (statements_of_routines rest)

  pub statements_of_body : BodyTree → Node
  statements_of_body (tree.a_directive directive) = Nothing
  statements_of_body (tree.a_block_body b) = statements_within b

-- ---- the names in the headings before the blocks of the routines in a block

abbrev mutual
  pub names_within : BlockTree → List ℕ
  names_within (tree.a_block labels constants types variables routines body) = names_of_routines routines

  pub names_of_routines : RoutineTrees → List ℕ
  names_of_routines tree.end_of_routines = []
  names_of_routines (tree.more_routines (tree.a_routine heading semicolon body last_semicolon) rest) =
      names_of_body (heading_name heading) body ++ names_of_routines rest

  pub names_of_body : ℕ → BodyTree → List ℕ
  names_of_body name (tree.a_directive directive) = []
  names_of_body name (tree.a_block_body b) = name ∷ names_within b

abbrev pub names_inside : BodyTree → List ℕ
names_inside (tree.a_directive directive) = []
names_inside (tree.a_block_body b) = names_within b
