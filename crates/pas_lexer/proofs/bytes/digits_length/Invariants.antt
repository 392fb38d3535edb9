use Rattle.std.proofs.Common.{◌+◌, ◌≡◌, drop}
use Rattle.pas_lexer.proofs.bytes.digits_length.Given as goal
use Rattle.pas_lexer.specs.{Lexis.digit, Reading.run_length}

abbrev pub invariant-loop-n : goal.invariant-loop-n
invariant-loop-n l = l.n + run_length digit (drop l.n l.bytes) ≡ run_length digit l.bytes
