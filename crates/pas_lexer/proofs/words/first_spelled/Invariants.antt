use Rattle.std.proofs.Common.{◌≡◌, drop}
use Rattle.pas_lexer.proofs.words.first_spelled.Given as goal
use Rattle.pas_lexer.specs.{Lexis.lower_case, Reading.word_among}

abbrev pub invariant-loop-word : goal.invariant-loop-word
invariant-loop-word l = word_among (drop l.word-index l.words) (lower_case l.text) ≡ word_among l.words (lower_case l.text)
