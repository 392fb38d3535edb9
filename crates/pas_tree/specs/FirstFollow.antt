-- What begins and follows the constructs that count as nesting.
use Rattle.std.specs.Prelude.{◌∷◌, [], Bool, false, true}
use Rattle.grammar.specs.{Grammars.variant_part, Terminals.is, Terminals.one_of, declared.terminals.Terminal.Terminal}
use Rattle.grammar.specs.Deciding.{LevelTables, both, either}
use Rattle.grammar.specs.Grammars.{Closer, Level, block, by_end, by_until, denoter, factor, heading, schema, statement}
use Rattle.grammar.specs.declared.terminals.Terminal.TheVariants as k
use Rattle.pas_tree.specs.Rules.{rule}

abbrev pub first_of : Level → Terminal → Bool
first_of block = one_of (k.WLabel ∷ k.WConst ∷ k.WType ∷ k.WVar ∷ k.WProcedure ∷ k.WFunction ∷ k.WBegin ∷ [])
first_of heading = one_of (k.WProcedure ∷ k.WFunction ∷ [])
first_of (statement inner closer) = one_of (k.Number ∷ k.Name ∷ k.WGoto ∷ k.WBegin ∷ k.WIf ∷ k.WCase ∷ k.WRepeat
    ∷ k.WWhile ∷ k.WFor ∷ k.WWith ∷ [])
first_of denoter = one_of (k.Name ∷ k.LeftParen ∷ k.Number ∷ k.Plus ∷ k.Minus ∷ k.Text ∷ k.Caret ∷ k.WPacked ∷ k.WArray
    ∷ k.WRecord ∷ k.WSet ∷ [])
first_of schema = one_of (k.WPacked ∷ k.WArray ∷ [])
first_of variant_part = one_of (k.WCase ∷ [])
first_of factor = one_of (k.Number ∷ k.Text ∷ k.WNil ∷ k.Name ∷ k.LeftParen ∷ k.LeftBracket ∷ k.WNot ∷ [])

abbrev pub nullable_of : Level → Bool
nullable_of block = false
nullable_of heading = false
nullable_of (statement inner closer) = true
nullable_of denoter = false
nullable_of schema = false
nullable_of variant_part = false
nullable_of factor = false

abbrev pub closer_word : Closer → Terminal
closer_word by_end = k.WEnd
closer_word by_until = k.WUntil

abbrev pub follow_of : Level → Terminal → Bool
follow_of block j = one_of (k.Semicolon ∷ k.Dot ∷ []) j
follow_of heading j = one_of (k.Semicolon ∷ k.RightParen ∷ []) j
follow_of (statement inner closer) j = either (one_of (k.Semicolon ∷ closer_word closer ∷ []) j)
    (both (is k.WElse j) inner)
follow_of denoter j = one_of (k.Semicolon ∷ k.Comma ∷ k.RightBracket ∷ k.RightParen ∷ k.WEnd ∷ []) j
follow_of schema j = one_of (k.Semicolon ∷ k.RightParen ∷ []) j
follow_of variant_part j = one_of (k.RightParen ∷ k.WEnd ∷ []) j
follow_of factor j =
    one_of (k.Star ∷ k.WDiv ∷ k.WMod ∷ k.WAnd ∷ k.Plus ∷ k.Minus ∷ k.WOr ∷ k.Equal ∷ k.NotEqual ∷ k.Less ∷ k.AtMost
    ∷ k.Greater ∷ k.AtLeast ∷ k.WIn
    ∷ k.Comma ∷ k.RightBracket ∷ k.RightParen ∷ k.Range ∷ k.Colon ∷ k.Semicolon ∷ k.WThen ∷ k.WElse ∷ k.WDo ∷ k.WOf
    ∷ k.WTo ∷ k.WDownto ∷ k.WEnd ∷ k.WUntil ∷ []) j

abbrev pub pascal : LevelTables
pascal = record { rule = rule; first_of = first_of; nullable_of = nullable_of; follow_of = follow_of }
