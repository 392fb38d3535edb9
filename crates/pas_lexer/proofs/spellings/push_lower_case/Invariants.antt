use Rattle.std.proofs.Common.{◌++◌, ◌≡◌, drop}
use Rattle.pas_lexer.proofs.spellings.push_lower_case.Given as goal
use Rattle.pas_lexer.specs.Lexis.{lower_case}

abbrev pub invariant-loop-c : goal.invariant-loop-c
invariant-loop-c l = l.spellings.items ++ lower_case (drop l.c-index l.text) ≡ l.fn.spellings.items ++ lower_case l.text
