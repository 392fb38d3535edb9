use Rattle.std.proofs.Common.{◌*◌, ◌+◌, ◌-◌, ◌∷◌, ◌≤◌, [], length}
use Rattle.grammar.specs.{Grammars.many, Grammars.nothing, Grammars.series, Reading.read}
use Rattle.grammar.specs.declared.terminals.Terminal.TheVariants as k
use Rattle.pas_tree.specs.{FirstFollow.pascal, Statements.branch_step, Statements.next_statement_node}
use Rattle.pas_tree.specs.Rules.{branch_rule, constant_starts, next_statement_rule}
use Rattle.pas_phrases.{proofs.ReadLists.ListSoFar, proofs.ReadSeries.SeriesSoFar, specs.Items.items_from}
use Rattle.pas_statements.proofs.StatementLists.{branches}
use Rattle.pas_statements.proofs.statements.+statements.Given as goal
use Rattle.pas_statements.specs.Closers.{closer_of}

abbrev pub invariant-read_statements-statements : goal.invariant-read_statements-statements
invariant-read_statements-statements l = record {
  so_far : ListSoFar next_statement_node l.depth (k.Semicolon ∷ []) (next_statement_rule (closer_of l.closer)) l.others.items (items_from l.tokens l.next)
      (read pascal l.depth (many (k.Semicolon ∷ []) (next_statement_rule (closer_of l.closer))) (items_from l.tokens l.start));
  forward : l.start ≤ l.next;
}

abbrev pub decreases-read_statements-statements : goal.decreases-read_statements-statements
decreases-read_statements-statements l = length l.tokens - l.next

abbrev pub invariant-read_next_branches-branches : goal.invariant-read_next_branches-branches
invariant-read_next_branches-branches l = record {
  so_far : SeriesSoFar branch_step l.depth branches l.others.items (items_from l.tokens l.next)
      (read pascal l.depth (series k.Semicolon constant_starts branch_rule nothing) (items_from l.tokens l.at));
  forward : l.at ≤ l.next;
}

abbrev pub decreases-read_next_branches-branches : goal.decreases-read_next_branches-branches
decreases-read_next_branches-branches l = length l.tokens - l.next

abbrev pub decreases-read_plain : goal.decreases-read_plain
decreases-read_plain l = 16 * l.depth + 11

abbrev pub decreases-read_compound : goal.decreases-read_compound
decreases-read_compound l = 16 * l.depth + 10

abbrev pub decreases-read_repeat : goal.decreases-read_repeat
decreases-read_repeat l = 16 * l.depth + 9

abbrev pub decreases-read_while : goal.decreases-read_while
decreases-read_while l = 16 * l.depth + 8

abbrev pub decreases-read_for : goal.decreases-read_for
decreases-read_for l = 16 * l.depth + 7

abbrev pub decreases-read_with : goal.decreases-read_with
decreases-read_with l = 16 * l.depth + 6

abbrev pub decreases-read_if : goal.decreases-read_if
decreases-read_if l = 16 * l.depth + 5

abbrev pub decreases-read_case : goal.decreases-read_case
decreases-read_case l = 16 * l.depth + 4

abbrev pub decreases-read_next_branches : goal.decreases-read_next_branches
decreases-read_next_branches l = 16 * l.depth + 3

abbrev pub decreases-read_branch : goal.decreases-read_branch
decreases-read_branch l = 16 * l.depth + 2

abbrev pub decreases-read_statements : goal.decreases-read_statements
decreases-read_statements l = 16 * l.depth + 1

abbrev pub decreases-read_statement : goal.decreases-read_statement
decreases-read_statement l = 16 * l.depth
