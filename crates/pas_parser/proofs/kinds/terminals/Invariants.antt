use Rattle.std.proofs.Common.{◌-◌, ◌≡◌, ◌≤◌, length, take}
use Rattle.pas_parser.proofs.kinds.terminals.Given as goal
use Rattle.pas_parser.specs.Kinds.{terminals_of}

abbrev pub invariant-tokens : goal.invariant-tokens
invariant-tokens l = record {
  so_far : l.items.items ≡ terminals_of (take l.next l.tokens.tokens);
  bound : l.next ≤ l.count;
  all : l.count ≡ length l.tokens.tokens;
}

abbrev pub decreases-tokens : goal.decreases-tokens
decreases-tokens l = l.count - l.next
