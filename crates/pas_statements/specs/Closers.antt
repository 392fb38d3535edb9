-- What closes a list of statements, by its word.
use Rattle.grammar.specs.Grammars.{Closer, by_end, by_until}
use Rattle.pas_statements.specs.declared.statements.ClosingWord.{ClosingWord}

abbrev pub closer_of : ClosingWord → Closer
closer_of ClosingWord.End = by_end
closer_of ClosingWord.Until = by_until
