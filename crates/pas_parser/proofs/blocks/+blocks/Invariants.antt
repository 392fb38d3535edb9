use Rattle.std.proofs.Common.{◌*◌, ◌+◌, ◌-◌, ◌≤◌, length}
use Rattle.grammar.specs.{Grammars.many, Reading.read}
use Rattle.pas_tree.specs.{Blocks.routine_node, FirstFollow.pascal, Rules.heading_starts, Rules.routine_rule}
use Rattle.pas_phrases.{proofs.ReadLists.ListSoFar, specs.Items.items_from}
use Rattle.pas_parser.proofs.blocks.+blocks.Given as goal

abbrev pub invariant-read_routines-routines : goal.invariant-read_routines-routines
invariant-read_routines-routines l = record {
  so_far : ListSoFar routine_node l.depth heading_starts routine_rule l.others.items (items_from l.tokens l.next)
      (read pascal l.depth (many heading_starts routine_rule) (items_from l.tokens l.at));
  forward : l.at ≤ l.next;
}

abbrev pub decreases-read_routines-routines : goal.decreases-read_routines-routines
decreases-read_routines-routines l = length l.tokens - l.next

abbrev pub decreases-read_inner_block : goal.decreases-read_inner_block
decreases-read_inner_block l = 32 * l.depth + 4

abbrev pub decreases-read_routines : goal.decreases-read_routines
decreases-read_routines l = 32 * l.depth + 3

abbrev pub decreases-read_routine : goal.decreases-read_routine
decreases-read_routine l = 32 * l.depth + 2

abbrev pub decreases-read_body : goal.decreases-read_body
decreases-read_body l = 32 * l.depth + 1

abbrev pub decreases-read_block : goal.decreases-read_block
decreases-read_block l = 32 * l.depth
