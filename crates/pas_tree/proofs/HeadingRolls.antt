-- The nodes of formal parameter lists.
use Rattle.std.proofs.Common.{◌≡◌, ℕ, Global, Vec, map, refl}
use denote.Hole.Carrier.{roll}
use Rattle.grammar.specs.Nodes.{Pair, leaf, row}
use Rattle.grammar.specs.declared.terminals.Terminal.TheVariants as k
use Rattle.pas_tree.specs.Headings as node
use Rattle.pas_tree.specs.declared.headings.{Formal.Formal, Formals.roll-Formals, NextFormal.NextFormal}
use Rattle.pas_tree.specs.declared.headings.Formal.TheBlock as b

formals_row : (n : _) (r : b.Row_of-NextFormal n) → node.more_formals_node r ≡ row (map node.next_formal_node (b.items-the_row-NextFormal n r))
formals_row _ b.end_of-NextFormal = refl
formals_row _ (b.more_of-NextFormal semicolon formal rest) = rw (formals_row _ rest)

pub formals_rolled : (open' : ℕ) (first : Formal) (others : Vec NextFormal Global) (close : ℕ)
    → node.formals_node (roll-Formals (record { «open» = open'; first = first; others = others; close = close }))
    ≡ Pair (leaf k.LeftParen open') (Pair (node.formal_node first) (Pair (row (map node.next_formal_node others.items)) (leaf k.RightParen close)))
unfolding roll-Formals roll
formals_rolled open' first others close = rw (formals_row _ (b.hidden-the_row-NextFormal-0 others), b.items_hidden-the_row-NextFormal-0)
