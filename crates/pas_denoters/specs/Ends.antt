-- What stands after the sections of a fixed part, as a node.
use Rattle.grammar.specs.{Nodes.Node, Nodes.Nothing, Nodes.Pair, Nodes.leaf, declared.terminals.Terminal.Terminal}
use Rattle.pas_tree.specs.Denoters.{some_variants_node}
use Rattle.pas_denoters.specs.declared.denoters.SectionsEnd.{SectionsEnd}

abbrev pub sections_end_node : SectionsEnd → Node
sections_end_node SectionsEnd.Nothing = Nothing
sections_end_node (SectionsEnd.Semicolon n) = Pair (leaf Terminal.Semicolon n) Nothing
sections_end_node (SectionsEnd.Variants variants last) = some_variants_node variants last
