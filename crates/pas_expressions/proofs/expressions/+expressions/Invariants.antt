use Rattle.std.proofs.Common.{◌*◌, ◌+◌, ◌-◌, ◌∷◌, ◌≡◌, ◌≤◌, [], Ok, length}
use Rattle.grammar.specs.{Grammars.factor, Grammars.many, Reading.levels, Reading.read, declared.terminals.Terminal.Terminal}
use Rattle.pas_tree.specs.Expressions.{factor_node, next_expression_node, next_factor_node, next_member_node, next_term_node, selector_node}
use Rattle.pas_tree.specs.FirstFollow.{pascal}
use Rattle.pas_tree.specs.Rules.{adding, multiplying, next_expression_rule, next_factor_rule, next_member_rule, next_term_rule, selector_rule, selector_starts}
use Rattle.pas_phrases.{proofs.ReadLists.ListSoFar, specs.Items.items_from}
use Rattle.pas_expressions.proofs.expressions.+expressions.Given as goal

abbrev pub invariant-read_simple-terms : goal.invariant-read_simple-terms
invariant-read_simple-terms l = record {
  so_far : ListSoFar next_term_node l.depth adding next_term_rule l.others.items (items_from l.tokens l.next)
      (read pascal l.depth (many adding next_term_rule) (items_from l.tokens l.start));
  forward : l.start ≤ l.next;
}

abbrev pub decreases-read_simple-terms : goal.decreases-read_simple-terms
decreases-read_simple-terms l = length l.tokens - l.next

abbrev pub invariant-read_term-factors : goal.invariant-read_term-factors
invariant-read_term-factors l = record {
  so_far : ListSoFar next_factor_node l.depth multiplying next_factor_rule l.others.items (items_from l.tokens l.next)
      (read pascal l.depth (many multiplying next_factor_rule) (items_from l.tokens l.start));
  begun : levels pascal l.depth factor (items_from l.tokens l.at) ≡ Ok (factor_node l.first, items_from l.tokens l.start);
  forward : l.start ≤ l.next;
}

abbrev pub decreases-read_term-factors : goal.decreases-read_term-factors
decreases-read_term-factors l = length l.tokens - l.next

abbrev pub invariant-read_next_expressions-expressions : goal.invariant-read_next_expressions-expressions
invariant-read_next_expressions-expressions l = record {
  so_far : ListSoFar next_expression_node l.depth (Terminal.Comma ∷ []) next_expression_rule l.others.items (items_from l.tokens l.next)
      (read pascal l.depth (many (Terminal.Comma ∷ []) next_expression_rule) (items_from l.tokens l.at));
  forward : l.at ≤ l.next;
}

abbrev pub decreases-read_next_expressions-expressions : goal.decreases-read_next_expressions-expressions
decreases-read_next_expressions-expressions l = length l.tokens - l.next

abbrev pub invariant-read_selectors-selectors : goal.invariant-read_selectors-selectors
invariant-read_selectors-selectors l = record {
  so_far : ListSoFar selector_node l.depth selector_starts selector_rule l.others.items (items_from l.tokens l.next)
      (read pascal l.depth (many selector_starts selector_rule) (items_from l.tokens l.at));
  forward : l.at ≤ l.next;
}

abbrev pub decreases-read_selectors-selectors : goal.decreases-read_selectors-selectors
decreases-read_selectors-selectors l = length l.tokens - l.next

abbrev pub invariant-read_next_members-members : goal.invariant-read_next_members-members
invariant-read_next_members-members l = record {
  so_far : ListSoFar next_member_node l.depth (Terminal.Comma ∷ []) next_member_rule l.others.items (items_from l.tokens l.next)
      (read pascal l.depth (many (Terminal.Comma ∷ []) next_member_rule) (items_from l.tokens l.at));
  forward : l.at ≤ l.next;
}

abbrev pub decreases-read_next_members-members : goal.decreases-read_next_members-members
decreases-read_next_members-members l = length l.tokens - l.next

abbrev pub decreases-read_named_factor : goal.decreases-read_named_factor
decreases-read_named_factor l = 32 * l.depth + 17

abbrev pub decreases-read_members : goal.decreases-read_members
decreases-read_members l = 32 * l.depth + 16

abbrev pub decreases-read_next_members : goal.decreases-read_next_members
decreases-read_next_members l = 32 * l.depth + 15

abbrev pub decreases-read_member : goal.decreases-read_member
decreases-read_member l = 32 * l.depth + 13

abbrev pub decreases-read_selectors : goal.decreases-read_selectors
decreases-read_selectors l = 32 * l.depth + 11

abbrev pub decreases-read_selector : goal.decreases-read_selector
decreases-read_selector l = 32 * l.depth + 10

abbrev pub decreases-read_next_expressions : goal.decreases-read_next_expressions
decreases-read_next_expressions l = 32 * l.depth + 9

abbrev pub decreases-read_expression : goal.decreases-read_expression
decreases-read_expression l = 32 * l.depth + 7

abbrev pub decreases-read_simple : goal.decreases-read_simple
decreases-read_simple l = 32 * l.depth + 6

abbrev pub decreases-read_term : goal.decreases-read_term
decreases-read_term l = 32 * l.depth + 3

abbrev pub decreases-read_factor : goal.decreases-read_factor
decreases-read_factor l = 32 * l.depth
