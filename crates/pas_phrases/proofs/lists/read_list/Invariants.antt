use Rattle.std.proofs.Common.{◌-◌, ◌≤◌, length}
use Rattle.grammar.specs.{Grammars.many, Reading.read}
use Rattle.pas_tree.specs.FirstFollow.{pascal}
use Rattle.pas_phrases.proofs.ReadLists.{ListSoFar}
use Rattle.pas_phrases.proofs.lists.read_list.Given as goal
use Rattle.pas_phrases.specs.Items.{items_from}

abbrev pub invariant-parts : goal.invariant-parts
invariant-parts g l = record {
  so_far : ListSoFar g.P.ListPart.node l.depth g.P.ListPart.starts g.P.ListPart.rule l.parts.items (items_from l.tokens l.next)
      (read pascal l.depth (many g.P.ListPart.starts g.P.ListPart.rule) (items_from l.tokens l.at));
  forward : l.at ≤ l.next;
}

abbrev pub decreases-parts : goal.decreases-parts
decreases-parts g l = length l.tokens - l.next
