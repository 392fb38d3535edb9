use Rattle.std.proofs.Common.{◌+◌, ◌≡◌, drop}
use Rattle.pas_lexer.proofs.bytes.identifier_length.Given as goal
use Rattle.pas_lexer.specs.{Lexis.letter_or_digit, Reading.run_length}

abbrev pub invariant-loop-n : goal.invariant-loop-n
invariant-loop-n l = l.n + run_length letter_or_digit (drop l.n l.bytes) ≡ run_length letter_or_digit l.bytes
