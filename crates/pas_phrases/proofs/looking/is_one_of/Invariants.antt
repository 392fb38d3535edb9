use Rattle.std.proofs.Common.{◌≡◌, drop}
use Rattle.grammar.specs.Terminals.{one_of}
use Rattle.pas_phrases.proofs.looking.is_one_of.Given as goal

abbrev pub invariant-search : goal.invariant-search
invariant-search l = one_of l.wanted l.found ≡ one_of (drop l.terminal-index l.wanted) l.found
