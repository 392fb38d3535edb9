use Rattle.std.proofs.Common.{◌<◌, ◌≡◌, ◌≤◌, IfSome, false, length}
use Rattle.pas_lexer.proofs.OneByteFurther.{last_from}
use Rattle.pas_lexer.proofs.bytes.last_apostrophe.Given as goal
use Rattle.pas_lexer.specs.Reading.{string_end}

abbrev pub invariant-characters : goal.invariant-characters
invariant-characters l = record {
  so_far : last_from l.bytes l.n l.pending l.last ≡ string_end false l.bytes;
  inside : IfSome l.last (λ m. (0 < m) × (m ≤ length l.bytes));
}
