use Rattle.std.proofs.Common.{◌≡◌, fold, take}
use Rattle.check_steps.proofs.words.names.Given as goal
use Rattle.check_steps.specs.Words.{name_from, required_names, texts_in}

abbrev pub invariant-tokens : goal.invariant-tokens
invariant-tokens l = texts_in l.names.keys ≡ fold (name_from l.tokens.source) required_names (take l.i l.tokens.tokens)
