use Rattle.std.proofs.Common.{◌+◌, ◌≡◌, drop}
use Rattle.dialog_replies.proofs.words.blanks.Given as goal
use Rattle.dialog_replies.specs.Words.{count_while, is_space_or_tab}

abbrev pub invariant-loop-c : goal.invariant-loop-c
invariant-loop-c l = record {
  so_far : l.n + count_while is_space_or_tab (drop l.c-index l.text) ≡ count_while is_space_or_tab l.text;
  index : l.n ≡ l.c-index;
}
