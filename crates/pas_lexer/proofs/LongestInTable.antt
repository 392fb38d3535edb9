-- The two tables: what each row has, and that what is found in a table is right.
use Rattle.std.proofs.Common.{◌&&◌, ◌++◌, ◌+◌, ◌<◌, ◌∙◌, ◌∷◌, ◌≡◌, ◌≤◌, ◌⊎◌, [], ℕ, Bool, List, None, Option, Some, ap, arith, drop, drop-cons, false, get_or}
use Rattle.std.proofs.Common.{inl, inr, length, nat_eq, nat_le, refl, subst, suc, sym, true}
use Rattle.std.proofs.lemmas.{Bool.and_parts, Bool.leb-true, Bool.Decides.Decides-eqb, Option.same_Some, Slice.Eq.bytes_eq-Decides, Slice.Eq.starts_is}
use Rattle.std.specs.{List.list_all, List.starts_with, Str.bytes_eq}
use Rattle.pas_lexer.proofs.LongestRun.{chosen}
use Rattle.pas_lexer.specs.{Lexicon.symbol_text, Lexicon.word_text, declared.kinds.Symbol.Symbol, declared.kinds.Word.Word}
use Rattle.pas_lexer.specs.Lexis.{apostrophe, digit, letter, letter_or_digit, lower_case, separator}
use Rattle.pas_lexer.specs.Reading.{all_symbols, all_words, symbol_among, symbol_of, word_among, written_text}
use Rattle.pas_lexer.specs.declared.kinds.Symbol.TheVariants.{AtLeast, AtMost, Becomes, Caret, Colon, Comma, Dot, Equal, Greater, LeftBracket, LeftParen, Less}
use Rattle.pas_lexer.specs.declared.kinds.Symbol.TheVariants.{Minus, NotEqual, Plus, Range, RightBracket, RightParen, Semicolon, Star}
use Rattle.pas_lexer.specs.declared.kinds.Word.TheVariants.{WAnd, WArray, WBegin, WCase, WConst, WDiv, WDo, WDownto, WElse, WEnd, WFile, WFor, WFunction, WGoto}
use Rattle.pas_lexer.specs.declared.kinds.Word.TheVariants.{WIf, WIn, WLabel, WMod, WNil, WNot, WOf, WOr, WPacked, WProcedure, WProgram, WRecord, WRepeat, WSet}
use Rattle.pas_lexer.specs.declared.kinds.Word.TheVariants.{WThen, WTo, WType, WUntil, WVar, WWhile, WWith}
use Rattle.pas_lexer.specs.declared.symbols.Written.{Written, TheVariants.Other, TheVariants.Usual}

-- ---- the rows

-- a word symbol has no capital
pub lowered : (w : Word) → lower_case (word_text w) ≡ word_text w
lowered WAnd = refl
lowered WArray = refl
lowered WBegin = refl
lowered WCase = refl
lowered WConst = refl
lowered WDiv = refl
lowered WDo = refl
lowered WDownto = refl
lowered WElse = refl
lowered WEnd = refl
lowered WFile = refl
lowered WFor = refl
lowered WFunction = refl
lowered WGoto = refl
lowered WIf = refl
lowered WIn = refl
lowered WLabel = refl
lowered WMod = refl
lowered WNil = refl
lowered WNot = refl
lowered WOf = refl
lowered WOr = refl
lowered WPacked = refl
lowered WProcedure = refl
lowered WProgram = refl
lowered WRecord = refl
lowered WRepeat = refl
lowered WSet = refl
lowered WThen = refl
lowered WTo = refl
lowered WType = refl
lowered WUntil = refl
lowered WVar = refl
lowered WWhile = refl
lowered WWith = refl

-- each word symbol is found by its text
pub word_found : (w : Word) → word_among all_words (word_text w) ≡ Some w
word_found WAnd = refl
word_found WArray = refl
word_found WBegin = refl
word_found WCase = refl
word_found WConst = refl
word_found WDiv = refl
word_found WDo = refl
word_found WDownto = refl
word_found WElse = refl
word_found WEnd = refl
word_found WFile = refl
word_found WFor = refl
word_found WFunction = refl
word_found WGoto = refl
word_found WIf = refl
word_found WIn = refl
word_found WLabel = refl
word_found WMod = refl
word_found WNil = refl
word_found WNot = refl
word_found WOf = refl
word_found WOr = refl
word_found WPacked = refl
word_found WProcedure = refl
word_found WProgram = refl
word_found WRecord = refl
word_found WRepeat = refl
word_found WSet = refl
word_found WThen = refl
word_found WTo = refl
word_found WType = refl
word_found WUntil = refl
word_found WVar = refl
word_found WWhile = refl
word_found WWith = refl

-- a letter, and then letters and digits
abbrev pub identifier : List ℕ → Bool
identifier [] = false
identifier (c ∷ cs) = letter c && list_all letter_or_digit cs

pub word_identifier : (w : Word) → identifier (word_text w) ≡ true
word_identifier WAnd = refl
word_identifier WArray = refl
word_identifier WBegin = refl
word_identifier WCase = refl
word_identifier WConst = refl
word_identifier WDiv = refl
word_identifier WDo = refl
word_identifier WDownto = refl
word_identifier WElse = refl
word_identifier WEnd = refl
word_identifier WFile = refl
word_identifier WFor = refl
word_identifier WFunction = refl
word_identifier WGoto = refl
word_identifier WIf = refl
word_identifier WIn = refl
word_identifier WLabel = refl
word_identifier WMod = refl
word_identifier WNil = refl
word_identifier WNot = refl
word_identifier WOf = refl
word_identifier WOr = refl
word_identifier WPacked = refl
word_identifier WProcedure = refl
word_identifier WProgram = refl
word_identifier WRecord = refl
word_identifier WRepeat = refl
word_identifier WSet = refl
word_identifier WThen = refl
word_identifier WTo = refl
word_identifier WType = refl
word_identifier WUntil = refl
word_identifier WVar = refl
word_identifier WWhile = refl
word_identifier WWith = refl

-- the symbol that is found, however it is written
abbrev found_in : Option Written → Option Symbol
found_in None = None
found_in (Some w) = Some (symbol_of w)

symbol_found : (w : Written) → found_in (symbol_among all_symbols (written_text w)) ≡ Some (symbol_of w)
symbol_found (Usual NotEqual) = refl
symbol_found (Usual AtMost) = refl
symbol_found (Usual AtLeast) = refl
symbol_found (Usual Becomes) = refl
symbol_found (Usual Range) = refl
symbol_found (Usual Plus) = refl
symbol_found (Usual Minus) = refl
symbol_found (Usual Star) = refl
symbol_found (Usual Equal) = refl
symbol_found (Usual Less) = refl
symbol_found (Usual Greater) = refl
symbol_found (Usual LeftBracket) = refl
symbol_found (Usual RightBracket) = refl
symbol_found (Usual Dot) = refl
symbol_found (Usual Comma) = refl
symbol_found (Usual Colon) = refl
symbol_found (Usual Semicolon) = refl
symbol_found (Usual Caret) = refl
symbol_found (Usual LeftParen) = refl
symbol_found (Usual RightParen) = refl
symbol_found (Other NotEqual) = refl
symbol_found (Other AtMost) = refl
symbol_found (Other AtLeast) = refl
symbol_found (Other Becomes) = refl
symbol_found (Other Range) = refl
symbol_found (Other Plus) = refl
symbol_found (Other Minus) = refl
symbol_found (Other Star) = refl
symbol_found (Other Equal) = refl
symbol_found (Other Less) = refl
symbol_found (Other Greater) = refl
symbol_found (Other LeftBracket) = refl
symbol_found (Other RightBracket) = refl
symbol_found (Other Dot) = refl
symbol_found (Other Comma) = refl
symbol_found (Other Colon) = refl
symbol_found (Other Semicolon) = refl
symbol_found (Other Caret) = refl
symbol_found (Other LeftParen) = refl
symbol_found (Other RightParen) = refl

-- a symbol begins with a byte that begins nothing else, and that is a symbol by itself
pub record Opened (text : List ℕ) : Type 0 where
  pub first : ℕ
  pub others : List ℕ
  pub alone : Written
  pub text_is : text ≡ first ∷ others
  pub alone_is : written_text alone ≡ first ∷ []
  pub no_letter : letter first ≡ false
  pub no_digit : digit first ≡ false
  pub no_separator : separator first ≡ false
  pub no_apostrophe : nat_eq first apostrophe ≡ false
  pub no_brace : nat_eq first 123 ≡ false
  pub no_slash : nat_eq first 47 ≡ false

usual_opened : (s : Symbol) → Opened (symbol_text s)
usual_opened NotEqual = record {
  first = 60;
  others = 62 ∷ [];
  alone = Usual Less;
  text_is = refl;
  alone_is = refl;
  no_letter = refl;
  no_digit = refl;
  no_separator = refl;
  no_apostrophe = refl;
  no_brace = refl;
  no_slash = refl;
}
usual_opened AtMost = record {
  first = 60;
  others = 61 ∷ [];
  alone = Usual Less;
  text_is = refl;
  alone_is = refl;
  no_letter = refl;
  no_digit = refl;
  no_separator = refl;
  no_apostrophe = refl;
  no_brace = refl;
  no_slash = refl;
}
usual_opened AtLeast = record {
  first = 62;
  others = 61 ∷ [];
  alone = Usual Greater;
  text_is = refl;
  alone_is = refl;
  no_letter = refl;
  no_digit = refl;
  no_separator = refl;
  no_apostrophe = refl;
  no_brace = refl;
  no_slash = refl;
}
usual_opened Becomes = record {
  first = 58;
  others = 61 ∷ [];
  alone = Usual Colon;
  text_is = refl;
  alone_is = refl;
  no_letter = refl;
  no_digit = refl;
  no_separator = refl;
  no_apostrophe = refl;
  no_brace = refl;
  no_slash = refl;
}
usual_opened Range = record {
  first = 46;
  others = 46 ∷ [];
  alone = Usual Dot;
  text_is = refl;
  alone_is = refl;
  no_letter = refl;
  no_digit = refl;
  no_separator = refl;
  no_apostrophe = refl;
  no_brace = refl;
  no_slash = refl;
}
usual_opened Plus = record {
  first = 43;
  others = [];
  alone = Usual Plus;
  text_is = refl;
  alone_is = refl;
  no_letter = refl;
  no_digit = refl;
  no_separator = refl;
  no_apostrophe = refl;
  no_brace = refl;
  no_slash = refl;
}
usual_opened Minus = record {
  first = 45;
  others = [];
  alone = Usual Minus;
  text_is = refl;
  alone_is = refl;
  no_letter = refl;
  no_digit = refl;
  no_separator = refl;
  no_apostrophe = refl;
  no_brace = refl;
  no_slash = refl;
}
usual_opened Star = record {
  first = 42;
  others = [];
  alone = Usual Star;
  text_is = refl;
  alone_is = refl;
  no_letter = refl;
  no_digit = refl;
  no_separator = refl;
  no_apostrophe = refl;
  no_brace = refl;
  no_slash = refl;
}
usual_opened Equal = record {
  first = 61;
  others = [];
  alone = Usual Equal;
  text_is = refl;
  alone_is = refl;
  no_letter = refl;
  no_digit = refl;
  no_separator = refl;
  no_apostrophe = refl;
  no_brace = refl;
  no_slash = refl;
}
usual_opened Less = record {
  first = 60;
  others = [];
  alone = Usual Less;
  text_is = refl;
  alone_is = refl;
  no_letter = refl;
  no_digit = refl;
  no_separator = refl;
  no_apostrophe = refl;
  no_brace = refl;
  no_slash = refl;
}
usual_opened Greater = record {
  first = 62;
  others = [];
  alone = Usual Greater;
  text_is = refl;
  alone_is = refl;
  no_letter = refl;
  no_digit = refl;
  no_separator = refl;
  no_apostrophe = refl;
  no_brace = refl;
  no_slash = refl;
}
usual_opened LeftBracket = record {
  first = 91;
  others = [];
  alone = Usual LeftBracket;
  text_is = refl;
  alone_is = refl;
  no_letter = refl;
  no_digit = refl;
  no_separator = refl;
  no_apostrophe = refl;
  no_brace = refl;
  no_slash = refl;
}
usual_opened RightBracket = record {
  first = 93;
  others = [];
  alone = Usual RightBracket;
  text_is = refl;
  alone_is = refl;
  no_letter = refl;
  no_digit = refl;
  no_separator = refl;
  no_apostrophe = refl;
  no_brace = refl;
  no_slash = refl;
}
usual_opened Dot = record {
  first = 46;
  others = [];
  alone = Usual Dot;
  text_is = refl;
  alone_is = refl;
  no_letter = refl;
  no_digit = refl;
  no_separator = refl;
  no_apostrophe = refl;
  no_brace = refl;
  no_slash = refl;
}
usual_opened Comma = record {
  first = 44;
  others = [];
  alone = Usual Comma;
  text_is = refl;
  alone_is = refl;
  no_letter = refl;
  no_digit = refl;
  no_separator = refl;
  no_apostrophe = refl;
  no_brace = refl;
  no_slash = refl;
}
usual_opened Colon = record {
  first = 58;
  others = [];
  alone = Usual Colon;
  text_is = refl;
  alone_is = refl;
  no_letter = refl;
  no_digit = refl;
  no_separator = refl;
  no_apostrophe = refl;
  no_brace = refl;
  no_slash = refl;
}
usual_opened Semicolon = record {
  first = 59;
  others = [];
  alone = Usual Semicolon;
  text_is = refl;
  alone_is = refl;
  no_letter = refl;
  no_digit = refl;
  no_separator = refl;
  no_apostrophe = refl;
  no_brace = refl;
  no_slash = refl;
}
usual_opened Caret = record {
  first = 94;
  others = [];
  alone = Usual Caret;
  text_is = refl;
  alone_is = refl;
  no_letter = refl;
  no_digit = refl;
  no_separator = refl;
  no_apostrophe = refl;
  no_brace = refl;
  no_slash = refl;
}
usual_opened LeftParen = record {
  first = 40;
  others = [];
  alone = Usual LeftParen;
  text_is = refl;
  alone_is = refl;
  no_letter = refl;
  no_digit = refl;
  no_separator = refl;
  no_apostrophe = refl;
  no_brace = refl;
  no_slash = refl;
}
usual_opened RightParen = record {
  first = 41;
  others = [];
  alone = Usual RightParen;
  text_is = refl;
  alone_is = refl;
  no_letter = refl;
  no_digit = refl;
  no_separator = refl;
  no_apostrophe = refl;
  no_brace = refl;
  no_slash = refl;
}

pub opened : (w : Written) → Opened (written_text w)
opened (Usual s) = usual_opened s
opened (Other LeftBracket) = record {
  first = 40;
  others = 46 ∷ [];
  alone = Usual LeftParen;
  text_is = refl;
  alone_is = refl;
  no_letter = refl;
  no_digit = refl;
  no_separator = refl;
  no_apostrophe = refl;
  no_brace = refl;
  no_slash = refl;
}
opened (Other RightBracket) = record {
  first = 46;
  others = 41 ∷ [];
  alone = Usual Dot;
  text_is = refl;
  alone_is = refl;
  no_letter = refl;
  no_digit = refl;
  no_separator = refl;
  no_apostrophe = refl;
  no_brace = refl;
  no_slash = refl;
}
opened (Other Caret) = record {
  first = 64;
  others = [];
  alone = Other Caret;
  text_is = refl;
  alone_is = refl;
  no_letter = refl;
  no_digit = refl;
  no_separator = refl;
  no_apostrophe = refl;
  no_brace = refl;
  no_slash = refl;
}
opened (Other NotEqual) = usual_opened NotEqual
opened (Other AtMost) = usual_opened AtMost
opened (Other AtLeast) = usual_opened AtLeast
opened (Other Becomes) = usual_opened Becomes
opened (Other Range) = usual_opened Range
opened (Other Plus) = usual_opened Plus
opened (Other Minus) = usual_opened Minus
opened (Other Star) = usual_opened Star
opened (Other Equal) = usual_opened Equal
opened (Other Less) = usual_opened Less
opened (Other Greater) = usual_opened Greater
opened (Other Dot) = usual_opened Dot
opened (Other Comma) = usual_opened Comma
opened (Other Colon) = usual_opened Colon
opened (Other Semicolon) = usual_opened Semicolon
opened (Other LeftParen) = usual_opened LeftParen
opened (Other RightParen) = usual_opened RightParen

-- the symbol is one of these
abbrev IsAmong : Written → List Written → Type 0
IsAmong t [] = ⊥
IsAmong t (s ∷ ss) = (s ≡ t) ⊎ IsAmong t ss

-- a row of the table with this symbol and this text
pub record Listed (w : Written) : Type 0 where
  pub row : Written
  pub among : IsAmong row all_symbols
  pub text : written_text w ≡ written_text row

usual_row : (s : Symbol) → IsAmong (Usual s) all_symbols
usual_row Plus = inr (inr (inr (inr (inr (inr (inr (inl refl)))))))
usual_row Minus = inr (inr (inr (inr (inr (inr (inr (inr (inl refl))))))))
usual_row Star = inr (inr (inr (inr (inr (inr (inr (inr (inr (inl refl)))))))))
usual_row Equal = inr (inr (inr (inr (inr (inr (inr (inr (inr (inr (inl refl))))))))))
usual_row Less = inr (inr (inr (inr (inr (inr (inr (inr (inr (inr (inr (inl refl)))))))))))
usual_row Greater = inr (inr (inr (inr (inr (inr (inr (inr (inr (inr (inr (inr (inl refl))))))))))))
usual_row LeftBracket = inr (inr (inr (inr (inr (inr (inr (inr (inr (inr (inr (inr (inr (inl refl)))))))))))))
usual_row RightBracket = inr (inr (inr (inr (inr (inr (inr (inr (inr (inr (inr (inr (inr (inr (inl refl))))))))))))))
usual_row Dot = inr (inr (inr (inr (inr (inr (inr (inr (inr (inr (inr (inr (inr (inr (inr (inl refl)))))))))))))))
usual_row Comma = inr (inr (inr (inr (inr (inr (inr (inr (inr (inr (inr (inr (inr (inr (inr (inr (inl refl))))))))))))))))
usual_row Colon = inr (inr (inr (inr (inr (inr (inr (inr (inr (inr (inr (inr (inr (inr (inr (inr (inr (inl refl)))))))))))))))))
usual_row Semicolon = inr (inr (inr (inr (inr (inr (inr (inr (inr (inr (inr (inr (inr (inr (inr (inr (inr (inr (inl refl))))))))))))))))))
usual_row Caret = inr (inr (inr (inr (inr (inr (inr (inr (inr (inr (inr (inr (inr (inr (inr (inr (inr (inr (inr (inl refl)))))))))))))))))))
usual_row LeftParen = inr (inr (inr (inr (inr (inr (inr (inr (inr (inr (inr (inr (inr (inr (inr (inr (inr (inr (inr (inr (inl refl))))))))))))))))))))
usual_row RightParen = inr (inr (inr (inr (inr (inr (inr (inr (inr (inr (inr (inr (inr (inr (inr (inr (inr (inr (inr (inr (inr (inl refl)))))))))))))))))))))
usual_row NotEqual = inl refl
usual_row AtMost = inr (inl refl)
usual_row AtLeast = inr (inr (inl refl))
usual_row Becomes = inr (inr (inr (inl refl)))
usual_row Range = inr (inr (inr (inr (inl refl))))

listed : (w : Written) → Listed w
listed (Usual s) = record { row = Usual s; among = usual_row s; text = refl }
listed (Other Plus) = record { row = Usual Plus; among = inr (inr (inr (inr (inr (inr (inr (inl refl))))))); text = refl }
listed (Other Minus) = record { row = Usual Minus; among = inr (inr (inr (inr (inr (inr (inr (inr (inl refl)))))))); text = refl }
listed (Other Star) = record { row = Usual Star; among = inr (inr (inr (inr (inr (inr (inr (inr (inr (inl refl))))))))); text = refl }
listed (Other Equal) = record { row = Usual Equal; among = inr (inr (inr (inr (inr (inr (inr (inr (inr (inr (inl refl)))))))))); text = refl }
listed (Other Less) = record { row = Usual Less; among = inr (inr (inr (inr (inr (inr (inr (inr (inr (inr (inr (inl refl))))))))))); text = refl }
listed (Other Greater) = record { row = Usual Greater; among = inr (inr (inr (inr (inr (inr (inr (inr (inr (inr (inr (inr (inl refl)))))))))))); text = refl }
listed (Other LeftBracket) = record { row = Other LeftBracket; among = inr (inr (inr (inr (inr (inl refl))))); text = refl }
listed (Other RightBracket) = record { row = Other RightBracket; among = inr (inr (inr (inr (inr (inr (inl refl)))))); text = refl }
listed (Other Dot) = record {
  row = Usual Dot;
  among = inr (inr (inr (inr (inr (inr (inr (inr (inr (inr (inr (inr (inr (inr (inr (inl refl)))))))))))))));
  text = refl;
}
listed (Other Comma) = record {
  row = Usual Comma;
  among = inr (inr (inr (inr (inr
      (inr (inr (inr (inr (inr (inr (inr (inr (inr (inr (inr (inl refl))))))))))))))));
  text = refl;
}
listed (Other Colon) = record {
  row = Usual Colon;
  among = inr (inr (inr (inr (inr
      (inr (inr (inr (inr (inr (inr (inr (inr (inr (inr (inr (inr (inl refl)))))))))))))))));
  text = refl;
}
listed (Other Semicolon) = record {
  row = Usual Semicolon;
  among = inr (inr (inr
      (inr (inr (inr (inr (inr (inr (inr (inr (inr (inr (inr (inr (inr (inr (inr (inl refl))))))))))))))))));
  text = refl;
}
listed (Other Caret) = record {
  row = Other Caret;
  among = inr (inr (inr (inr (inr
      (inr (inr (inr (inr (inr (inr (inr (inr (inr (inr (inr (inr (inr (inr (inr (inr (inr (inl refl))))))))))))))))))))));
  text = refl;
}
listed (Other LeftParen) = record {
  row = Usual LeftParen;
  among = inr (inr (inr
      (inr (inr (inr (inr (inr (inr (inr (inr (inr (inr (inr (inr (inr (inr (inr (inr (inr (inl refl))))))))))))))))))));
  text = refl;
}
listed (Other RightParen) = record {
  row = Usual RightParen;
  among = inr (inr (inr
      (inr (inr (inr (inr (inr (inr (inr (inr (inr (inr (inr (inr (inr (inr (inr (inr (inr (inr (inl refl)))))))))))))))))))));
  text = refl;
}
listed (Other NotEqual) = record { row = Usual NotEqual; among = inl refl; text = refl }
listed (Other AtMost) = record { row = Usual AtMost; among = inr (inl refl); text = refl }
listed (Other AtLeast) = record { row = Usual AtLeast; among = inr (inr (inl refl)); text = refl }
listed (Other Becomes) = record { row = Usual Becomes; among = inr (inr (inr (inl refl))); text = refl }
listed (Other Range) = record { row = Usual Range; among = inr (inr (inr (inr (inl refl)))); text = refl }

-- ---- words

-- the first word of the rest is the text
pub word_here : (ws : List Word) (i : ℕ) (d : Word) (t : List ℕ) → i < length ws → t ≡ word_text (get_or ws i d) → word_among (drop i ws) t ≡ word_among ws t
    → Some (get_or ws i d) ≡ word_among ws t
word_here ws i d t lt e so_far =
    let b : bytes_eq t (word_text (get_or ws i d)) ≡ true = (bytes_eq-Decides t (word_text (get_or ws i d))).1 e in
    let here : word_among (get_or ws i d ∷ drop (suc i) ws) t ≡ Some (get_or ws i d) = rw b refl in
    sym here ∙ ap (λ (l : List Word). word_among l t) (sym (drop-cons ws i d lt)) ∙ so_far

-- it is not, so go on
pub word_later : (ws : List Word) (i : ℕ) (d : Word) (t : List ℕ) → i < length ws → (t ≡ word_text (get_or ws i d) → ⊥)
    → word_among (drop i ws) t ≡ word_among ws t → word_among (drop (i + 1) ws) t ≡ word_among ws t
word_later ws i d t lt other so_far =
    elim (chosen (bytes_eq t (word_text (get_or ws i d))) (Some (get_or ws i d)) (word_among (drop (suc i) ws) t) _ refl) [
      | inl h ↦ absurd (other ((bytes_eq-Decides t (word_text (get_or ws i d))).0 h.0))
      | inr h ↦ let next : suc i ≡ i + 1 = omega arith in
          ap (λ (n : ℕ). word_among (drop n ws) t) (sym next) ∙ h.1 ∙ ap (λ (l : List Word). word_among l t) (sym (drop-cons ws i d lt)) ∙ so_far
    ]

pub spelled : (t x : List ℕ) (w : Word) → x ≡ word_text w → lower_case t ≡ lower_case x → lower_case t ≡ word_text w
spelled t x w e h = h ∙ ap lower_case e ∙ lowered w

pub respelled : (t x : List ℕ) (w : Word) → x ≡ word_text w → lower_case t ≡ word_text w → lower_case t ≡ lower_case x
respelled t x w e h = h ∙ sym (lowered w) ∙ ap lower_case (sym e)

-- the word that is found is the text
pub word_is : (ws : List Word) (t : List ℕ) (w : Word) → word_among ws t ≡ Some w → t ≡ word_text w
word_is [] t w e = absurd cc
word_is (v ∷ ws) t w e =
    elim (chosen (bytes_eq t (word_text v)) (Some v) (word_among ws t) (Some w) e) [
      | inl h ↦ let same : v ≡ w = same_Some v w h.1 in (bytes_eq-Decides t (word_text v)).0 h.0 ∙ ap word_text same
      | inr h ↦ word_is ws t w h.1
    ]

-- ---- symbols

begins : (l : List ℕ) (s : Written) → starts_with nat_eq l (written_text s) ≡ true → l ≡ written_text s ++ drop (length (written_text s)) l
begins l s h = (starts_is Decides-eqb l (written_text s) (starts_with nat_eq l (written_text s)) refl).0 h

begun : (l rest : List ℕ) (s : Written) → l ≡ written_text s ++ rest → starts_with nat_eq l (written_text s) ≡ true
begun l rest s e = (starts_is Decides-eqb l (written_text s) (starts_with nat_eq l (written_text s)) refl).1 rest e

-- the bytes begin with the symbol that is found
pub symbol_is : (ss : List Written) (l : List ℕ) (s : Written) → symbol_among ss l ≡ Some s → l ≡ written_text s ++ drop (length (written_text s)) l
symbol_is [] l s e = absurd cc
symbol_is (t ∷ ss) l s e =
    elim (chosen (starts_with nat_eq l (written_text t)) (Some t) (symbol_among ss l) (Some s) e) [
      | inl h ↦ subst (λ (x : Written). l ≡ written_text x ++ drop (length (written_text x)) l) (same_Some t s h.1) (begins l t h.0)
      | inr h ↦ symbol_is ss l s h.1
    ]

-- no symbol of these is longer
abbrev no_longer : ℕ → List Written → Bool
no_longer n [] = true
no_longer n (s ∷ ss) = nat_le (length (written_text s)) n && no_longer n ss

abbrev ordered : List Written → Bool
ordered [] = true
ordered (s ∷ ss) = no_longer (length (written_text s)) ss && ordered ss

within_all : (n : ℕ) (ss : List Written) (t : Written) → no_longer n ss ≡ true → IsAmong t ss → length (written_text t) ≤ n
within_all n [] t h m = absurd m
within_all n (s ∷ ss) t h m =
    let p = and_parts (nat_le (length (written_text s)) n) (no_longer n ss) h in
    elim m [
      | inl e ↦ subst (λ (x : Written). length (written_text x) ≤ n) e (leb-true (length (written_text s)) n p.0)
      | inr g ↦ within_all n ss t p.1 g
    ]

-- the symbol that is found is the longest with which the bytes begin
longest_among : (ss : List Written) (l rest : List ℕ) (t s : Written) → ordered ss ≡ true → IsAmong t ss → l ≡ written_text t ++ rest
    → symbol_among ss l ≡ Some s → length (written_text t) ≤ length (written_text s)
longest_among [] l rest t s o m front e = absurd m
longest_among (v ∷ ss) l rest t s o m front e =
    let p = and_parts (no_longer (length (written_text v)) ss) (ordered ss) o in
    elim (chosen (starts_with nat_eq l (written_text v)) (Some v) (symbol_among ss l) (Some s) e) [
      | inl h ↦ subst (λ (x : Written). length (written_text t) ≤ length (written_text x)) (same_Some v s h.1) (elim m [
        | inl same ↦ subst (λ (x : Written). length (written_text t) ≤ length (written_text x)) (sym same) (omega arith)
        | inr g ↦ within_all (length (written_text v)) ss t p.0 g
      ])
      | inr h ↦ elim m [
        | inl same ↦ absurd (let yes : starts_with nat_eq l (written_text v) ≡ true =
            begun l rest v (front ∙ ap (λ (x : Written). written_text x ++ rest) (sym same)) in let no : starts_with nat_eq l (written_text v) ≡ false = h.0 in
            cc)
        | inr g ↦ longest_among ss l rest t s p.1 g front h.1
      ]
    ]

pub longest_symbol : (l rest : List ℕ) (t s : Written) → l ≡ written_text t ++ rest → symbol_among all_symbols l ≡ Some s
    → length (written_text t) ≤ length (written_text s)
longest_symbol l rest t s front e =
    let r = listed t in
    subst (λ (x : List ℕ). length x ≤ length (written_text s)) (sym r.text) (longest_among all_symbols l rest r.row s refl r.among (front
    ∙ ap (λ (x : List ℕ). x ++ rest) r.text) e)

-- where the bytes begin with a symbol, some symbol is found
some_among : (ss : List Written) (l rest : List ℕ) (t : Written) → IsAmong t ss → l ≡ written_text t ++ rest → (s : Written) × (symbol_among ss l ≡ Some s)
some_among [] l rest t m front = absurd m
some_among (v ∷ ss) l rest t m front =
    elim (chosen (starts_with nat_eq l (written_text v)) (Some v) (symbol_among ss l) (symbol_among (v ∷ ss) l) refl) [
      | inl h ↦ (v, sym h.1)
      | inr h ↦ elim m [
        | inl same ↦ absurd (let yes : starts_with nat_eq l (written_text v) ≡ true =
            begun l rest v (front ∙ ap (λ (x : Written). written_text x ++ rest) (sym same)) in let no : starts_with nat_eq l (written_text v) ≡ false = h.0 in
            cc)
        | inr g ↦ let r = some_among ss l rest t g front in (r.0, sym h.1 ∙ r.1)
      ]
    ]

pub some_symbol : (l rest : List ℕ) (t : Written) → l ≡ written_text t ++ rest → (s : Written) × (symbol_among all_symbols l ≡ Some s)
some_symbol l rest t front = let r = listed t in some_among all_symbols l rest r.row r.among (front ∙ ap (λ (x : List ℕ). x ++ rest) r.text)

-- a text is of one symbol
pub one_symbol : (s t : Written) → written_text s ≡ written_text t → symbol_of s ≡ symbol_of t
one_symbol s t e = same_Some (symbol_of s) (symbol_of t) (sym (symbol_found s) ∙ ap (λ (l : List ℕ). found_in (symbol_among all_symbols l)) e ∙ symbol_found t)
