-- A node keeps all that a tree says: programs with equal nodes have equal trees, so a text has one tree at most.
use Rattle.std.specs.Prelude.{◌≡◌, ℕ}
use Rattle.grammar.specs.{Laws.IsFormedBy, Nodes.spell}
use Rattle.pas_tree.specs.{BlockTrees.program_tree, Blocks.tree_node, FirstFollow.pascal, Rules.program_rule}
use Rattle.pas_tree.specs.declared.blocks.Tree.{Tree}

abbrev pub NodesTellTrees : Type 0
NodesTellTrees = (a b : Tree) → tree_node a ≡ tree_node b → program_tree a ≡ program_tree b

-- and so are the formed trees of one text, in which at most n levels are nested
abbrev pub TextTellsTree : Type 0
TextTellsTree =
    (n : ℕ) (a b : Tree) → IsFormedBy pascal n program_rule (tree_node a)
    → IsFormedBy pascal n program_rule (tree_node b) → spell (tree_node a) ≡ spell (tree_node b)
    → program_tree a ≡ program_tree b
