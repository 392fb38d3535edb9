use Rattle.std.proofs.Common.{◌*◌, ◌+◌, ◌-◌, ◌∷◌, ◌≤◌, [], length}
use Rattle.grammar.specs.{Grammars.many, Reading.read, declared.terminals.Terminal.Terminal}
use Rattle.pas_tree.specs.{FirstFollow.pascal, Headings.next_formal_node, Rules.next_formal_rule}
use Rattle.pas_phrases.{proofs.ReadLists.ListSoFar, specs.Items.items_from}
use Rattle.pas_denoters.proofs.headings.+headings.Given as goal

abbrev pub invariant-read_next_formals-formals : goal.invariant-read_next_formals-formals
invariant-read_next_formals-formals l = record {
  so_far : ListSoFar next_formal_node l.depth (Terminal.Semicolon ∷ []) next_formal_rule l.others.items (items_from l.tokens l.next)
      (read pascal l.depth (many (Terminal.Semicolon ∷ []) next_formal_rule) (items_from l.tokens l.at));
  forward : l.at ≤ l.next;
}

abbrev pub decreases-read_next_formals-formals : goal.decreases-read_next_formals-formals
decreases-read_next_formals-formals l = length l.tokens - l.next

abbrev pub decreases-read_procedure : goal.decreases-read_procedure
decreases-read_procedure l = 8 * l.depth + 5

abbrev pub decreases-read_function : goal.decreases-read_function
decreases-read_function l = 8 * l.depth + 4

abbrev pub decreases-read_formals : goal.decreases-read_formals
decreases-read_formals l = 8 * l.depth + 3

abbrev pub decreases-read_next_formals : goal.decreases-read_next_formals
decreases-read_next_formals l = 8 * l.depth + 2

abbrev pub decreases-read_formal : goal.decreases-read_formal
decreases-read_formal l = 8 * l.depth + 1

abbrev pub decreases-read_heading : goal.decreases-read_heading
decreases-read_heading l = 8 * l.depth
