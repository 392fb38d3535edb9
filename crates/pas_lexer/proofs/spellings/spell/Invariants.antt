use Rattle.std.proofs.Common.{take}
use Rattle.pas_lexer.proofs.spellings.spell.Given as goal
use Rattle.pas_lexer.specs.Lexed.{AreSpelled}

abbrev pub invariant-tokens : goal.invariant-tokens
invariant-tokens l = AreSpelled l.source l.spellings.items (take l.token-index l.tokens) l.places.items
