-- The node of a routine that may be there.
use Rattle.std.proofs.Common.{None, Option, Some}
use Rattle.grammar.specs.Nodes.{Node, Nothing}
use Rattle.pas_tree.specs.{BlockTrees.RoutineTree, TreeNodes.routine_node}

abbrev pub completion_node : Option RoutineTree → Node
completion_node None = Nothing
completion_node (Some r) = routine_node r
