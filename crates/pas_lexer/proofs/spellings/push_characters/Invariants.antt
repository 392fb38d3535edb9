use Rattle.std.proofs.Common.{◌++◌, ◌≡◌, drop, false}
use Rattle.pas_lexer.proofs.spellings.push_characters.Given as goal
use Rattle.pas_lexer.specs.Lexed.{characters}

abbrev pub invariant-loop-c : goal.invariant-loop-c
invariant-loop-c l = l.spellings.items ++ characters l.pending (drop l.c-index l.text) ≡ l.fn.spellings.items ++ characters false l.text
