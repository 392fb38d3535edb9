use Rattle.std.proofs.Common.{◌≡◌, ◌≤◌, drop}
use Rattle.pas_lexer.proofs.DecimalByDigit.{then_digits}
use Rattle.pas_lexer.proofs.piece.number_of.Given as goal
use Rattle.pas_lexer.specs.Lexis.{decimal, maxint}

abbrev pub invariant-loop-c : goal.invariant-loop-c
invariant-loop-c l = record {
  so_far : then_digits l.value (drop l.c-index l.digits) ≡ decimal l.digits;
  small : l.value ≤ maxint;
}
