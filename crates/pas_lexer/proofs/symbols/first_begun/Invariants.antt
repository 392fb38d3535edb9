use Rattle.std.proofs.Common.{◌≡◌, drop}
use Rattle.pas_lexer.proofs.symbols.first_begun.Given as goal
use Rattle.pas_lexer.specs.Reading.{symbol_among}

abbrev pub invariant-loop-symbol : goal.invariant-loop-symbol
invariant-loop-symbol l = symbol_among (drop l.symbol-index l.symbols) l.bytes ≡ symbol_among l.symbols l.bytes
