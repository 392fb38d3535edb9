-- A made source is short enough to be read.
use Rattle.std.proofs.Common.{◌++◌, ◌≤◌, ℕ, arith, codes, decimal, length, length-append}
use Rattle.std.proofs.lemmas.Fmt.{length-decimal-le}
use Rattle.pas_lexer.specs.Limits.{source_bytes}
use Rattle.made_program.specs.Source.{made_source}

pub made_short : (number : ℕ) → 1 ≤ number → number ≤ 14 → length (made_source number) ≤ source_bytes
made_short number least most =
    let digits = length-decimal-le 2 number (omega arith) (omega arith) (omega arith) in
    let line = length-append (decimal number) (codes ")\n") in
    let both = length-append (decimal number ++ codes ")\n") (codes "end.\n") in
    omega (arith, digits, line, both)
