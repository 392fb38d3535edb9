use Rattle.std.proofs.Common.{◌≡◌, ◌≤◌, length}
use Rattle.dialog_replies.proofs.words.solid_end.Given as goal
use Rattle.dialog_replies.specs.Words.{solid_end}

abbrev pub decreases-blanks : goal.decreases-blanks
decreases-blanks l = l.end

abbrev pub invariant-blanks : goal.invariant-blanks
invariant-blanks l = record {
  so_far : solid_end l.text l.end ≡ solid_end l.text (length l.text);
  inside : l.end ≤ length l.text;
}
