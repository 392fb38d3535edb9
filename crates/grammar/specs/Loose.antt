-- A grammar without the rule that a greedy part is taken where it can be.
use Rattle.std.specs.Prelude.{ℕ, None}
use Rattle.grammar.specs.{Grammars.token, Nodes.Node}
use Rattle.grammar.specs.Grammars.{Free, FreeWithin, Grammar, Level, again, choice, greedy, level, loop, nothing, seq}

abbrev pub loose : Grammar → Grammar
loose (token ks) = token ks
loose nothing = nothing
loose (seq a b) = seq (loose a) (loose b)
loose (choice ks a b) = choice ks (loose a) (loose b)
loose (greedy ks a) = choice ks (loose a) nothing
loose (level l) = level l
loose (loop a) = loop (loose a)
loose again = again

-- It is a tree of the grammar at some nesting, whatever its greedy parts.
abbrev pub IsGrammatical : (Level → Grammar) → Grammar → Node → Type 0
IsGrammatical rule g x = (n : ℕ) × Free (FreeWithin (λ l. loose (rule l)) n) (loose g) x None
