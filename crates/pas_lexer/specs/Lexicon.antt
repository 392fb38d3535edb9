-- The two tables of the lexis, ISO 7185 clause 6.1.2: how the word symbols and the special symbols are spelled.
use Rattle.std.specs.Prelude.{ℕ, List, codes}
use Rattle.pas_lexer.specs.declared.kinds.Symbol.{Symbol}
use Rattle.pas_lexer.specs.declared.kinds.Symbol.TheVariants.{AtLeast, AtMost, Becomes, Caret, Colon, Comma, Dot, Equal}
use Rattle.pas_lexer.specs.declared.kinds.Symbol.TheVariants.{Greater, LeftBracket, LeftParen, Less, Minus, NotEqual}
use Rattle.pas_lexer.specs.declared.kinds.Symbol.TheVariants.{Plus, Range, RightBracket, RightParen, Semicolon, Star}
use Rattle.pas_lexer.specs.declared.kinds.Word.{Word, TheVariants.WVar, TheVariants.WWhile, TheVariants.WWith}
use Rattle.pas_lexer.specs.declared.kinds.Word.TheVariants.{WAnd, WArray, WBegin, WCase, WConst, WDiv, WDo, WDownto}
use Rattle.pas_lexer.specs.declared.kinds.Word.TheVariants.{WElse, WEnd, WFile, WFor, WFunction, WGoto, WIf, WIn}
use Rattle.pas_lexer.specs.declared.kinds.Word.TheVariants.{WLabel, WMod, WNil, WNot, WOf, WOr, WPacked, WProcedure}
use Rattle.pas_lexer.specs.declared.kinds.Word.TheVariants.{WProgram, WRecord, WRepeat, WSet, WThen, WTo, WType, WUntil}

-- the word symbols, in lower case
abbrev pub word_text : Word → List ℕ
word_text WAnd = codes "and"
word_text WArray = codes "array"
word_text WBegin = codes "begin"
word_text WCase = codes "case"
word_text WConst = codes "const"
word_text WDiv = codes "div"
word_text WDo = codes "do"
word_text WDownto = codes "downto"
word_text WElse = codes "else"
word_text WEnd = codes "end"
word_text WFile = codes "file"
word_text WFor = codes "for"
word_text WFunction = codes "function"
word_text WGoto = codes "goto"
word_text WIf = codes "if"
word_text WIn = codes "in"
word_text WLabel = codes "label"
word_text WMod = codes "mod"
word_text WNil = codes "nil"
word_text WNot = codes "not"
word_text WOf = codes "of"
word_text WOr = codes "or"
word_text WPacked = codes "packed"
word_text WProcedure = codes "procedure"
word_text WProgram = codes "program"
word_text WRecord = codes "record"
word_text WRepeat = codes "repeat"
word_text WSet = codes "set"
word_text WThen = codes "then"
word_text WTo = codes "to"
word_text WType = codes "type"
word_text WUntil = codes "until"
word_text WVar = codes "var"
word_text WWhile = codes "while"
word_text WWith = codes "with"

-- the special symbols, without the `/` of real division
abbrev pub symbol_text : Symbol → List ℕ
symbol_text Plus = codes "+"
symbol_text Minus = codes "-"
symbol_text Star = codes "*"
symbol_text Equal = codes "="
symbol_text Less = codes "<"
symbol_text Greater = codes ">"
symbol_text LeftBracket = codes "["
symbol_text RightBracket = codes "]"
symbol_text Dot = codes "."
symbol_text Comma = codes ","
symbol_text Colon = codes ":"
symbol_text Semicolon = codes ";"
symbol_text Caret = codes "^"
symbol_text LeftParen = codes "("
symbol_text RightParen = codes ")"
symbol_text NotEqual = codes "<>"
symbol_text AtMost = codes "<="
symbol_text AtLeast = codes ">="
symbol_text Becomes = codes ":="
symbol_text Range = codes ".."

-- 6.1.9: the alternative spelling of a symbol, or its only one
abbrev pub other_text : Symbol → List ℕ
other_text Caret = codes "@"
other_text LeftBracket = codes "(."
other_text RightBracket = codes ".)"
other_text s = symbol_text s
