-- The terminals, and tests of them.
use Rattle.std.specs.Prelude.{if◌then◌else◌, ◌&&◌, ◌∷◌, [], ℕ, Bool, List, None, Option, Some, false, nat_eq, true}
use Rattle.grammar.specs.declared.terminals.Terminal.{Terminal}
use Rattle.grammar.specs.declared.terminals.Terminal.TheVariants.{AtLeast, AtMost, Becomes, Caret, Colon, Comma, Dot}
use Rattle.grammar.specs.declared.terminals.Terminal.TheVariants.{End, Equal, Greater, LeftBracket, LeftParen, Less}
use Rattle.grammar.specs.declared.terminals.Terminal.TheVariants.{Minus, Name, NotEqual, Number, Plus, Range}
use Rattle.grammar.specs.declared.terminals.Terminal.TheVariants.{RightBracket, RightParen, Semicolon, Star, Text, WAnd}
use Rattle.grammar.specs.declared.terminals.Terminal.TheVariants.{WArray, WBegin, WCase, WConst, WDiv, WDo, WDownto}
use Rattle.grammar.specs.declared.terminals.Terminal.TheVariants.{WElse, WEnd, WFile, WFor, WFunction, WGoto, WIf, WIn}
use Rattle.grammar.specs.declared.terminals.Terminal.TheVariants.{WLabel, WMod, WNil, WNot, WOf, WOr, WPacked}
use Rattle.grammar.specs.declared.terminals.Terminal.TheVariants.{WProcedure, WProgram, WRecord, WRepeat, WSet, WThen}
use Rattle.grammar.specs.declared.terminals.Terminal.TheVariants.{WTo, WType, WUntil, WVar, WWhile, WWith}

-- the place of a terminal in the list of all
abbrev pub place : Terminal → ℕ
place WAnd = 0
place WArray = 1
place WBegin = 2
place WCase = 3
place WConst = 4
place WDiv = 5
place WDo = 6
place WDownto = 7
place WElse = 8
place WEnd = 9
place WFile = 10
place WFor = 11
place WFunction = 12
place WGoto = 13
place WIf = 14
place WIn = 15
place WLabel = 16
place WMod = 17
place WNil = 18
place WNot = 19
place WOf = 20
place WOr = 21
place WPacked = 22
place WProcedure = 23
place WProgram = 24
place WRecord = 25
place WRepeat = 26
place WSet = 27
place WThen = 28
place WTo = 29
place WType = 30
place WUntil = 31
place WVar = 32
place WWhile = 33
place WWith = 34
place Plus = 35
place Minus = 36
place Star = 37
place Equal = 38
place Less = 39
place Greater = 40
place LeftBracket = 41
place RightBracket = 42
place Dot = 43
place Comma = 44
place Colon = 45
place Semicolon = 46
place Caret = 47
place LeftParen = 48
place RightParen = 49
place NotEqual = 50
place AtMost = 51
place AtLeast = 52
place Becomes = 53
place Range = 54
place Name = 55
place Number = 56
place Text = 57
place End = 58

abbrev pub all_terminals : List Terminal
all_terminals =
    WAnd ∷ WArray ∷ WBegin ∷ WCase ∷ WConst ∷ WDiv ∷ WDo ∷ WDownto ∷ WElse ∷ WEnd ∷ WFile ∷ WFor ∷ WFunction ∷ WGoto
    ∷ WIf ∷ WIn ∷ WLabel ∷ WMod ∷ WNil ∷ WNot ∷ WOf ∷ WOr ∷ WPacked ∷ WProcedure ∷ WProgram ∷ WRecord ∷ WRepeat
    ∷ WSet ∷ WThen ∷ WTo ∷ WType ∷ WUntil ∷ WVar ∷ WWhile ∷ WWith ∷ Plus ∷ Minus ∷ Star ∷ Equal ∷ Less ∷ Greater
    ∷ LeftBracket ∷ RightBracket ∷ Dot ∷ Comma ∷ Colon ∷ Semicolon ∷ Caret ∷ LeftParen ∷ RightParen ∷ NotEqual
    ∷ AtMost ∷ AtLeast ∷ Becomes ∷ Range ∷ Name ∷ Number ∷ Text ∷ End ∷ []

-- whether the second is the first
abbrev pub is : Terminal → Terminal → Bool
is wanted k = nat_eq (place wanted) (place k)

-- whether a terminal is in a list
abbrev pub one_of : List Terminal → Terminal → Bool
one_of [] k = false
one_of (wanted ∷ []) k = is wanted k
one_of (wanted ∷ other ∷ ks) k = if is wanted k then true else one_of (other ∷ ks) k

-- a test of the next token; nothing is next at the end
abbrev pub passes : List Terminal → Option Terminal → Bool
passes ks None = false
passes ks (Some k) = one_of ks k

-- whether all of a list pass a test, and all terminals
abbrev pub every_of : {A : Type 0} → (A → Bool) → List A → Bool
every_of t [] = true
every_of t (k ∷ ks) = t k && every_of t ks

abbrev pub every : (Terminal → Bool) → Bool
every t = every_of t all_terminals
