use Rattle.std.proofs.Common.{◌≡◌, take}
use Rattle.check_steps.proofs.words.words.Given as goal
use Rattle.check_steps.specs.Words.{texts_in, words_of}

abbrev pub invariant-tokens : goal.invariant-tokens
invariant-tokens l = l.words.items ≡ words_of (texts_in l.names.keys) l.tokens.source (take l.i l.tokens.tokens)
