-- The derived comparison of terminals is the test by their places.
use Rattle.std.proofs.Common.{◌∙◌, ◌≡◌, ℕ, arith, nat_eq, refl, true}
use Rattle.std.proofs.lemmas.Bool.Decides.{nat_tests}
use denote.Enum.Bare.{same_true, sameb}
use denote.Enum.Declared.{tag_of}
use Rattle.grammar.specs.{Terminals.is, Terminals.place, contracts.terminals.Terminal.the_type, declared.terminals.Terminal.Terminal}
use Rattle.grammar.specs.declared.terminals.Terminal.TheVariants.{AtLeast, AtMost, Becomes, Caret, Colon, Comma, Dot, End, Equal, Greater, LeftBracket}
use Rattle.grammar.specs.declared.terminals.Terminal.TheVariants.{LeftParen, Less, Minus, Name, NotEqual, Number, Plus, Range, RightBracket, RightParen}
use Rattle.grammar.specs.declared.terminals.Terminal.TheVariants.{Semicolon, Star, Text, WAnd, WArray, WBegin, WCase, WConst, WDiv, WDo, WDownto, WElse, WEnd}
use Rattle.grammar.specs.declared.terminals.Terminal.TheVariants.{WFile, WFor, WFunction, WGoto, WIf, WIn, WLabel, WMod, WNil, WNot, WOf, WOr, WPacked}
use Rattle.grammar.specs.declared.terminals.Terminal.TheVariants.{WProcedure, WProgram, WRecord, WRepeat, WSet, WThen, WTo, WType, WUntil, WVar, WWhile, WWith}

pub tag-place : (a : Terminal) → tag_of the_type a ≡ place a
tag-place WAnd = refl
tag-place WArray = refl
tag-place WBegin = refl
tag-place WCase = refl
tag-place WConst = refl
tag-place WDiv = refl
tag-place WDo = refl
tag-place WDownto = refl
tag-place WElse = refl
tag-place WEnd = refl
tag-place WFile = refl
tag-place WFor = refl
tag-place WFunction = refl
tag-place WGoto = refl
tag-place WIf = refl
tag-place WIn = refl
tag-place WLabel = refl
tag-place WMod = refl
tag-place WNil = refl
tag-place WNot = refl
tag-place WOf = refl
tag-place WOr = refl
tag-place WPacked = refl
tag-place WProcedure = refl
tag-place WProgram = refl
tag-place WRecord = refl
tag-place WRepeat = refl
tag-place WSet = refl
tag-place WThen = refl
tag-place WTo = refl
tag-place WType = refl
tag-place WUntil = refl
tag-place WVar = refl
tag-place WWhile = refl
tag-place WWith = refl
tag-place Plus = refl
tag-place Minus = refl
tag-place Star = refl
tag-place Equal = refl
tag-place Less = refl
tag-place Greater = refl
tag-place LeftBracket = refl
tag-place RightBracket = refl
tag-place Dot = refl
tag-place Comma = refl
tag-place Colon = refl
tag-place Semicolon = refl
tag-place Caret = refl
tag-place LeftParen = refl
tag-place RightParen = refl
tag-place NotEqual = refl
tag-place AtMost = refl
tag-place AtLeast = refl
tag-place Becomes = refl
tag-place Range = refl
tag-place Name = refl
tag-place Number = refl
tag-place Text = refl
tag-place End = refl

swap : (m n : ℕ) → nat_eq m n ≡ nat_eq n m
swap m n = grind (arith, nat_tests)

pub is-same : (a b : Terminal) → sameb the_type a b ≡ is b a
is-same a b = rw (tag-place a, tag-place b) (swap (place a) (place b))

pub is-equal : (a b : Terminal) → is b a ≡ true → a ≡ b
is-equal a b e = same_true the_type tt a b (is-same a b ∙ e)
