use Rattle.std.proofs.Common.{◌≡◌, take}
use Rattle.check_steps.proofs.words.texts.Given as goal
use Rattle.check_steps.specs.Words.{texts_in, texts_of}

abbrev pub invariant-tokens : goal.invariant-tokens
invariant-tokens l = texts_in l.texts.items ≡ texts_of l.tokens.source (take l.i l.tokens.tokens)
