-- The terminal that a token is.
use Rattle.std.specs.Prelude.{List, map}
use Rattle.pas_lexer.specs.declared.kinds.{Symbol.Symbol, Token.Token, TokenKind.TokenKind, Word.Word}
use Rattle.grammar.specs.declared.terminals.Terminal.{Terminal}

abbrev pub word_terminal : Word → Terminal
word_terminal Word.WAnd = Terminal.WAnd
word_terminal Word.WArray = Terminal.WArray
word_terminal Word.WBegin = Terminal.WBegin
word_terminal Word.WCase = Terminal.WCase
word_terminal Word.WConst = Terminal.WConst
word_terminal Word.WDiv = Terminal.WDiv
word_terminal Word.WDo = Terminal.WDo
word_terminal Word.WDownto = Terminal.WDownto
word_terminal Word.WElse = Terminal.WElse
word_terminal Word.WEnd = Terminal.WEnd
word_terminal Word.WFile = Terminal.WFile
word_terminal Word.WFor = Terminal.WFor
word_terminal Word.WFunction = Terminal.WFunction
word_terminal Word.WGoto = Terminal.WGoto
word_terminal Word.WIf = Terminal.WIf
word_terminal Word.WIn = Terminal.WIn
word_terminal Word.WLabel = Terminal.WLabel
word_terminal Word.WMod = Terminal.WMod
word_terminal Word.WNil = Terminal.WNil
word_terminal Word.WNot = Terminal.WNot
word_terminal Word.WOf = Terminal.WOf
word_terminal Word.WOr = Terminal.WOr
word_terminal Word.WPacked = Terminal.WPacked
word_terminal Word.WProcedure = Terminal.WProcedure
word_terminal Word.WProgram = Terminal.WProgram
word_terminal Word.WRecord = Terminal.WRecord
word_terminal Word.WRepeat = Terminal.WRepeat
word_terminal Word.WSet = Terminal.WSet
word_terminal Word.WThen = Terminal.WThen
word_terminal Word.WTo = Terminal.WTo
word_terminal Word.WType = Terminal.WType
word_terminal Word.WUntil = Terminal.WUntil
word_terminal Word.WVar = Terminal.WVar
word_terminal Word.WWhile = Terminal.WWhile
word_terminal Word.WWith = Terminal.WWith

abbrev pub symbol_terminal : Symbol → Terminal
symbol_terminal Symbol.Plus = Terminal.Plus
symbol_terminal Symbol.Minus = Terminal.Minus
symbol_terminal Symbol.Star = Terminal.Star
symbol_terminal Symbol.Equal = Terminal.Equal
symbol_terminal Symbol.Less = Terminal.Less
symbol_terminal Symbol.Greater = Terminal.Greater
symbol_terminal Symbol.LeftBracket = Terminal.LeftBracket
symbol_terminal Symbol.RightBracket = Terminal.RightBracket
symbol_terminal Symbol.Dot = Terminal.Dot
symbol_terminal Symbol.Comma = Terminal.Comma
symbol_terminal Symbol.Colon = Terminal.Colon
symbol_terminal Symbol.Semicolon = Terminal.Semicolon
symbol_terminal Symbol.Caret = Terminal.Caret
symbol_terminal Symbol.LeftParen = Terminal.LeftParen
symbol_terminal Symbol.RightParen = Terminal.RightParen
symbol_terminal Symbol.NotEqual = Terminal.NotEqual
symbol_terminal Symbol.AtMost = Terminal.AtMost
symbol_terminal Symbol.AtLeast = Terminal.AtLeast
symbol_terminal Symbol.Becomes = Terminal.Becomes
symbol_terminal Symbol.Range = Terminal.Range

abbrev pub terminal_of : TokenKind → Terminal
terminal_of (TokenKind.Word w) = word_terminal w
terminal_of TokenKind.Name = Terminal.Name
terminal_of (TokenKind.Number n) = Terminal.Number
terminal_of TokenKind.Text = Terminal.Text
terminal_of (TokenKind.Symbol s) = symbol_terminal s
terminal_of TokenKind.End = Terminal.End

-- the terminals of a list of tokens
abbrev pub terminals_of : List Token → List Terminal
terminals_of tokens = map (λ t. terminal_of t.kind) tokens
