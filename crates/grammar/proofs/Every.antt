-- What all terminals pass, each passes.
use Rattle.std.proofs.Common.{◌∷◌, ◌≡◌, [], ℕ, Bool, List, suc, true, zero}
use Rattle.std.proofs.lemmas.Bool.{and_parts}
use Rattle.grammar.specs.{Terminals.all_terminals, Terminals.every, Terminals.every_of, declared.terminals.Terminal.Terminal}
use Rattle.grammar.specs.declared.terminals.Terminal.TheVariants.{AtLeast, AtMost, Becomes, Caret, Colon, Comma, Dot, End, Equal, Greater, LeftBracket}
use Rattle.grammar.specs.declared.terminals.Terminal.TheVariants.{LeftParen, Less, Minus, Name, NotEqual, Number, Plus, Range, RightBracket, RightParen}
use Rattle.grammar.specs.declared.terminals.Terminal.TheVariants.{Semicolon, Star, Text, WAnd, WArray, WBegin, WCase, WConst, WDiv, WDo, WDownto, WElse, WEnd}
use Rattle.grammar.specs.declared.terminals.Terminal.TheVariants.{WFile, WFor, WFunction, WGoto, WIf, WIn, WLabel, WMod, WNil, WNot, WOf, WOr, WPacked}
use Rattle.grammar.specs.declared.terminals.Terminal.TheVariants.{WProcedure, WProgram, WRecord, WRepeat, WSet, WThen, WTo, WType, WUntil, WVar, WWhile, WWith}

-- a fact of what is at a place of a list
abbrev pub At : {A : Type 0} → ℕ → List A → (A → Type 0) → Type 0
At n [] p = Unit {0}
At zero (k ∷ ks) p = p k
At (suc n) (k ∷ ks) p = At n ks p

pub every_at : {A : Type 0} (t : A → Bool) (n : ℕ) (ks : List A) → every_of t ks ≡ true → At n ks (λ k. t k ≡ true)
every_at t n [] e = tt
every_at t zero (k ∷ ks) e = (and_parts (t k) (every_of t ks) e).0
every_at t (suc n) (k ∷ ks) e = every_at t n ks (and_parts (t k) (every_of t ks) e).1

pub every_terminal : (t : Terminal → Bool) → every t ≡ true → (k : Terminal) → t k ≡ true
every_terminal t e WAnd = every_at t 0 all_terminals e
every_terminal t e WArray = every_at t 1 all_terminals e
every_terminal t e WBegin = every_at t 2 all_terminals e
every_terminal t e WCase = every_at t 3 all_terminals e
every_terminal t e WConst = every_at t 4 all_terminals e
every_terminal t e WDiv = every_at t 5 all_terminals e
every_terminal t e WDo = every_at t 6 all_terminals e
every_terminal t e WDownto = every_at t 7 all_terminals e
every_terminal t e WElse = every_at t 8 all_terminals e
every_terminal t e WEnd = every_at t 9 all_terminals e
every_terminal t e WFile = every_at t 10 all_terminals e
every_terminal t e WFor = every_at t 11 all_terminals e
every_terminal t e WFunction = every_at t 12 all_terminals e
every_terminal t e WGoto = every_at t 13 all_terminals e
every_terminal t e WIf = every_at t 14 all_terminals e
every_terminal t e WIn = every_at t 15 all_terminals e
every_terminal t e WLabel = every_at t 16 all_terminals e
every_terminal t e WMod = every_at t 17 all_terminals e
every_terminal t e WNil = every_at t 18 all_terminals e
every_terminal t e WNot = every_at t 19 all_terminals e
every_terminal t e WOf = every_at t 20 all_terminals e
every_terminal t e WOr = every_at t 21 all_terminals e
every_terminal t e WPacked = every_at t 22 all_terminals e
every_terminal t e WProcedure = every_at t 23 all_terminals e
every_terminal t e WProgram = every_at t 24 all_terminals e
every_terminal t e WRecord = every_at t 25 all_terminals e
every_terminal t e WRepeat = every_at t 26 all_terminals e
every_terminal t e WSet = every_at t 27 all_terminals e
every_terminal t e WThen = every_at t 28 all_terminals e
every_terminal t e WTo = every_at t 29 all_terminals e
every_terminal t e WType = every_at t 30 all_terminals e
every_terminal t e WUntil = every_at t 31 all_terminals e
every_terminal t e WVar = every_at t 32 all_terminals e
every_terminal t e WWhile = every_at t 33 all_terminals e
every_terminal t e WWith = every_at t 34 all_terminals e
every_terminal t e Plus = every_at t 35 all_terminals e
every_terminal t e Minus = every_at t 36 all_terminals e
every_terminal t e Star = every_at t 37 all_terminals e
every_terminal t e Equal = every_at t 38 all_terminals e
every_terminal t e Less = every_at t 39 all_terminals e
every_terminal t e Greater = every_at t 40 all_terminals e
every_terminal t e LeftBracket = every_at t 41 all_terminals e
every_terminal t e RightBracket = every_at t 42 all_terminals e
every_terminal t e Dot = every_at t 43 all_terminals e
every_terminal t e Comma = every_at t 44 all_terminals e
every_terminal t e Colon = every_at t 45 all_terminals e
every_terminal t e Semicolon = every_at t 46 all_terminals e
every_terminal t e Caret = every_at t 47 all_terminals e
every_terminal t e LeftParen = every_at t 48 all_terminals e
every_terminal t e RightParen = every_at t 49 all_terminals e
every_terminal t e NotEqual = every_at t 50 all_terminals e
every_terminal t e AtMost = every_at t 51 all_terminals e
every_terminal t e AtLeast = every_at t 52 all_terminals e
every_terminal t e Becomes = every_at t 53 all_terminals e
every_terminal t e Range = every_at t 54 all_terminals e
every_terminal t e Name = every_at t 55 all_terminals e
every_terminal t e Number = every_at t 56 all_terminals e
every_terminal t e Text = every_at t 57 all_terminals e
every_terminal t e End = every_at t 58 all_terminals e
