use Rattle.std.proofs.Common.{◌-◌, ◌≡◌, ◌≤◌, length}
use Rattle.pas_lexer.proofs.OneDivision.{SoFar}
use Rattle.pas_lexer.proofs.lexing.scan.Given as goal
use Rattle.pas_lexer.specs.Division.{line_at}

abbrev pub invariant-pieces : goal.invariant-pieces
invariant-pieces l = record {
  so_far : SoFar l.bytes l.at l.tokens.items;
  inside : l.at ≤ length l.bytes;
  line_is : l.line ≡ line_at l.bytes l.at;
  few : length l.tokens.items ≤ l.at;
}

abbrev pub decreases-pieces : goal.decreases-pieces
decreases-pieces l = length l.bytes - l.at
