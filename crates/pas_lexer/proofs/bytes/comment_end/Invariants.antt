use Rattle.std.proofs.Common.{◌-◌, ◌≡◌, ◌≤◌, drop, length}
use Rattle.pas_lexer.proofs.bytes.comment_end.Given as goal
use Rattle.pas_lexer.specs.Reading.{closing, more_by}

abbrev pub invariant-body : goal.invariant-body
invariant-body l = record {
  so_far : more_by l.at (closing (drop l.at l.bytes)) ≡ closing l.bytes;
  inside : l.at ≤ length l.bytes;
}

abbrev pub decreases-body : goal.decreases-body
decreases-body l = length l.bytes - l.at
