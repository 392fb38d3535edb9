-- Reading one piece: what stands first, and how many bytes it takes. Only the private readers speak of it; the public
-- contracts speak of Lexis and Division, and proofs show that what is read fits and what fits is read.
use Rattle.std.specs.Prelude.{if◌then◌else◌, ◌&&◌, ◌+◌, ◌∷◌, [], ℕ, Bool, Err, List, None, Ok, Option, Result, Some}
use Rattle.std.specs.Prelude.{drop, false, length, nat_eq, nat_lt, suc, take, true}
use Rattle.std.specs.{List.starts_with, Str.bytes_eq}
use Rattle.pas_lexer.specs.Lexicon.{other_text, symbol_text, word_text}
use Rattle.pas_lexer.specs.Lexis.{apostrophe, decimal, digit, ends_line, letter, letter_first, letter_or_digit}
use Rattle.pas_lexer.specs.Lexis.{lower_case, maxint, next_is, real_follows, separator}
use Rattle.pas_lexer.specs.declared.kinds.{Symbol.Symbol, TokenKind.TokenKind, TokenKind.TheVariants.Word as WordKind}
use Rattle.pas_lexer.specs.declared.kinds.LexReason.{LexReason, TheVariants.RealWord, TheVariants.TooLarge}
use Rattle.pas_lexer.specs.declared.kinds.LexReason.TheVariants.{BadByte, EmptyString, Joined, OpenComment, OpenString}
use Rattle.pas_lexer.specs.declared.kinds.Symbol.TheVariants.{AtLeast, AtMost, Becomes, Caret, Colon, Comma, Dot, Equal}
use Rattle.pas_lexer.specs.declared.kinds.Symbol.TheVariants.{Greater, LeftBracket, LeftParen, Less, Minus, NotEqual}
use Rattle.pas_lexer.specs.declared.kinds.Symbol.TheVariants.{Plus, Range, RightBracket, RightParen, Semicolon, Star}
use Rattle.pas_lexer.specs.declared.kinds.TokenKind.TheVariants.{Name, Number, Symbol as SymbolKind, Text}
use Rattle.pas_lexer.specs.declared.kinds.Word.{Word, TheVariants.WVar, TheVariants.WWhile, TheVariants.WWith}
use Rattle.pas_lexer.specs.declared.kinds.Word.TheVariants.{WAnd, WArray, WBegin, WCase, WConst, WDiv, WDo, WDownto}
use Rattle.pas_lexer.specs.declared.kinds.Word.TheVariants.{WElse, WEnd, WFile, WFor, WFunction, WGoto, WIf, WIn}
use Rattle.pas_lexer.specs.declared.kinds.Word.TheVariants.{WLabel, WMod, WNil, WNot, WOf, WOr, WPacked, WProcedure}
use Rattle.pas_lexer.specs.declared.kinds.Word.TheVariants.{WProgram, WRecord, WRepeat, WSet, WThen, WTo, WType, WUntil}
use Rattle.pas_lexer.specs.declared.symbols.Written.{Written, TheVariants.Other, TheVariants.Usual}

-- each word symbol, in the order of `WORDS`
abbrev pub all_words : List Word
all_words = WAnd ∷ WArray ∷ WBegin ∷ WCase ∷ WConst ∷ WDiv ∷ WDo ∷ WDownto ∷ WElse ∷ WEnd ∷ WFile ∷ WFor ∷ WFunction
    ∷ WGoto ∷ WIf ∷ WIn ∷ WLabel ∷ WMod ∷ WNil ∷ WNot ∷ WOf ∷ WOr ∷ WPacked ∷ WProcedure ∷ WProgram ∷ WRecord ∷ WRepeat
    ∷ WSet ∷ WThen ∷ WTo ∷ WType ∷ WUntil ∷ WVar ∷ WWhile ∷ WWith ∷ []

-- a special symbol as it is written
abbrev pub written_text : Written → List ℕ
written_text (Usual s) = symbol_text s
written_text (Other s) = other_text s

abbrev pub symbol_of : Written → Symbol
symbol_of (Usual s) = s
symbol_of (Other s) = s

-- each special symbol as it is written, in the order of `SYMBOLS`: the longer ones first
abbrev pub all_symbols : List Written
all_symbols = Usual NotEqual ∷ Usual AtMost ∷ Usual AtLeast ∷ Usual Becomes ∷ Usual Range ∷ Other LeftBracket
    ∷ Other RightBracket ∷ Usual Plus ∷ Usual Minus ∷ Usual Star ∷ Usual Equal ∷ Usual Less ∷ Usual Greater
    ∷ Usual LeftBracket ∷ Usual RightBracket ∷ Usual Dot ∷ Usual Comma ∷ Usual Colon ∷ Usual Semicolon ∷ Usual Caret
    ∷ Usual LeftParen ∷ Usual RightParen ∷ Other Caret ∷ []

-- the first of the words that the text is
abbrev pub word_among : List Word → List ℕ → Option Word
word_among [] text = None
word_among (w ∷ ws) text = if bytes_eq text (word_text w) then Some w else word_among ws text

-- the first of the symbols with which the bytes begin
abbrev pub symbol_among : List Written → List ℕ → Option Written
symbol_among [] l = None
symbol_among (s ∷ ss) l = if starts_with nat_eq l (written_text s) then Some s else symbol_among ss l

unfoldable pub word_in : List ℕ → Option Word
word_in text = word_among all_words (lower_case text)

unfoldable pub symbol_in : List ℕ → Option Written
symbol_in l = symbol_among all_symbols l

-- how many of the first bytes pass
abbrev pub run_length : (ℕ → Bool) → List ℕ → ℕ
run_length p [] = 0
run_length p (c ∷ l) = if p c then suc (run_length p l) else 0

abbrev pub more_by : ℕ → Option ℕ → Option ℕ
more_by n None = None
more_by n (Some m) = Some (n + m)

-- how far the first closing symbol of a comment goes
abbrev pub closing : List ℕ → Option ℕ
closing [] = None
closing (c ∷ l) = if nat_eq c 125 then Some 1 else (if nat_eq c 42 && next_is 41 l then Some 2 else more_by 1
    (closing l))

-- the first if there is one, or else the second
abbrev pub or_else : Option ℕ → Option ℕ → Option ℕ
or_else None second = second
or_else (Some n) second = Some n

-- How far the last apostrophe goes that can end a string, whose first apostrophe stands in front. `pending` says that
-- an apostrophe stands in front that ends the string unless another follows.
abbrev pub string_end : Bool → List ℕ → Option ℕ
string_end pending [] = None
string_end true (c ∷ l) = if nat_eq c apostrophe then more_by 1 (string_end false l) else None
string_end false (c ∷ l) = if nat_eq c apostrophe then or_else (more_by 1 (string_end true l)) (Some 1)
    else (if ends_line c then None else more_by 1 (string_end false l))

-- a piece's kind, or none for a separator or a comment, and its length; or the reason for which no piece fits
abbrev pub Reading : Type 0
Reading = Result (Option TokenKind × ℕ) LexReason

abbrev pub word_or_name : Option Word → TokenKind
word_or_name None = Name
word_or_name (Some w) = WordKind w

abbrev pub symbol_piece : Option Written → Reading
symbol_piece None = Err BadByte
symbol_piece (Some s) = Ok (Some (SymbolKind (symbol_of s)), length (written_text s))

unfoldable pub identifier_at : List ℕ → Reading
identifier_at l = let n = run_length letter_or_digit l in Ok (Some (word_or_name (word_in (take n l))), n)

-- the number that digits denote, if a source may write it
unfoldable pub number_in : List ℕ → Option ℕ
number_in digits = if nat_lt maxint (decimal digits) then None else Some (decimal digits)

abbrev pub number_piece : ℕ → Option ℕ → Reading
number_piece n None = Err TooLarge
number_piece n (Some value) = Ok (Some (Number value), n)

-- the number of these digits, in front of a rest
abbrev pub number_before : List ℕ → ℕ → List ℕ → Reading
number_before rest n digits = if real_follows rest then Err RealWord
    else (if letter_first rest then Err Joined else number_piece n (number_in digits))

unfoldable pub number_at : List ℕ → Reading
number_at l = let n = run_length digit l in number_before (drop n l) n (take n l)

abbrev pub comment_piece : ℕ → Option ℕ → Reading
comment_piece opened None = Err OpenComment
comment_piece opened (Some n) = Ok (None, opened + n)

abbrev pub string_piece : List ℕ → Option ℕ → Reading
string_piece l None = Err OpenString
string_piece l (Some n) = if nat_lt 1 n then Ok (Some Text, 1 + n)
    else (if next_is apostrophe (drop 1 l) then Err OpenString else Err EmptyString)

-- the string whose first apostrophe stands in front
unfoldable pub string_at : List ℕ → Reading
string_at l = string_piece l (string_end false l)

-- a string, a comment or a symbol
unfoldable pub mark_piece : ℕ → List ℕ → Reading
mark_piece c l =
    if nat_eq c apostrophe then string_at l
    else (if nat_eq c 123 then comment_piece 1 (closing l)
    else (if nat_eq c 40 && next_is 42 l then comment_piece 2 (closing (drop 1 l))
    else (if nat_eq c 47 then Err RealWord
    else symbol_piece (symbol_in (c ∷ l)))))

unfoldable pub piece_at : List ℕ → Reading
piece_at [] = Err BadByte
piece_at (c ∷ l) =
    if letter c then identifier_at (c ∷ l)
    else (if digit c then number_at (c ∷ l)
    else (if separator c then Ok (None, 1)
    else mark_piece c l))
