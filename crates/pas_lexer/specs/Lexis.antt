-- The lexis of Pascal, ISO 7185 clause 6.1: which texts are tokens and separators, where each of them fits, and why
-- nothing fits.
use Rattle.std.specs.Prelude.{if◌then◌else◌, ◌&&◌, ◌*◌, ◌++◌, ◌+◌, ◌-◌, ◌<◌, ◌^◌, ◌||◌, ◌∷◌, ◌≡◌, ◌≢◌, ◌≤◌, ◌⊎◌, [], ℕ}
use Rattle.std.specs.Prelude.{Bool, List, None, Option, Some, codes, false, length, map, nat_eq, not, true}
use Rattle.std.specs.Char.{is_ascii_alphabetic, is_ascii_alphanumeric, is_ascii_digit, to_ascii_lowercase}
use Rattle.std.specs.List.{AllPass}
use Rattle.pas_lexer.specs.Lexicon.{other_text, symbol_text, word_text}
use Rattle.pas_lexer.specs.declared.kinds.{TokenKind.TokenKind, TokenKind.TheVariants.Word as WordKind, Word.Word}
use Rattle.pas_lexer.specs.declared.kinds.LexReason.{LexReason, TheVariants.RealWord, TheVariants.TooLarge}
use Rattle.pas_lexer.specs.declared.kinds.LexReason.TheVariants.{BadByte, EmptyString, Joined, OpenComment, OpenString}
use Rattle.pas_lexer.specs.declared.kinds.TokenKind.TheVariants.{End, Name, Number, Symbol as SymbolKind, Text}

-- ---- bytes

-- 6.1.1: a digit, '0' to '9', and a letter, 'a' to 'z' or 'A' to 'Z'
abbrev pub digit : ℕ → Bool
digit c = is_ascii_digit c

abbrev pub letter : ℕ → Bool
letter c = is_ascii_alphabetic c

abbrev pub letter_or_digit : ℕ → Bool
letter_or_digit c = is_ascii_alphanumeric c

-- 6.1.8: a tab, a line feed, a form feed, a carriage return or a space
abbrev pub separator : ℕ → Bool
separator c = nat_eq c 9 || nat_eq c 10 || nat_eq c 12 || nat_eq c 13 || nat_eq c 32

-- a line ends at a line feed
abbrev pub ends_line : ℕ → Bool
ends_line c = nat_eq c 10

abbrev pub in_line : ℕ → Bool
in_line c = not (ends_line c)

abbrev pub apostrophe : ℕ
apostrophe = 39

abbrev pub letter_first : List ℕ → Bool
letter_first [] = false
letter_first (c ∷ l) = letter c

abbrev pub digit_first : List ℕ → Bool
digit_first [] = false
digit_first (c ∷ l) = digit c

-- this byte stands first
abbrev pub next_is : ℕ → List ℕ → Bool
next_is b [] = false
next_is b (c ∷ l) = nat_eq c b

-- the line, or the source, ends here
abbrev pub ends_first : List ℕ → Bool
ends_first [] = true
ends_first (c ∷ l) = ends_line c

-- 6.1.1: the case of a letter does not matter
abbrev pub lower_case : List ℕ → List ℕ
lower_case text = map to_ascii_lowercase text

-- ---- texts

-- 6.1.3: a letter, and then letters and digits
abbrev pub IsIdentifier : List ℕ → Type 0
IsIdentifier [] = ⊥
IsIdentifier (c ∷ cs) = (letter c ≡ true) × AllPass letter_or_digit cs

-- 6.1.5: digits, at least one
abbrev pub IsDigitSequence : List ℕ → Type 0
IsDigitSequence [] = ⊥
IsDigitSequence (c ∷ cs) = (digit c ≡ true) × AllPass digit cs

-- the number that digits denote in decimal notation
abbrev pub decimal : List ℕ → ℕ
decimal [] = 0
decimal (c ∷ cs) = (c - 48) * 10 ^ length cs + decimal cs

-- maxint (6.7.2.2), the largest number that a source may write
abbrev pub maxint : ℕ
maxint = 2147483647

-- 6.1.7: at least one character, and no end of a line
abbrev pub IsCharacters : List ℕ → Type 0
IsCharacters [] = ⊥
IsCharacters (c ∷ cs) = AllPass in_line (c ∷ cs)

-- each apostrophe twice
abbrev pub doubled : List ℕ → List ℕ
doubled [] = []
doubled (c ∷ cs) = if nat_eq c apostrophe then c ∷ (c ∷ doubled cs) else c ∷ doubled cs

-- 6.1.7: characters as a string is written, between apostrophes and each apostrophe in it twice
abbrev pub quoted : List ℕ → List ℕ
quoted characters = apostrophe ∷ (doubled characters ++ apostrophe ∷ [])

-- The spellings of each kind of token. A name is no word symbol (6.1.3). A number is not limited here, so that digits
-- that stand together are one number however many there are.
abbrev pub Spells : TokenKind → List ℕ → Type 0
Spells (WordKind w) text = lower_case text ≡ word_text w
Spells Name text = IsIdentifier text × ((w : Word) → lower_case text ≢ word_text w)
Spells (Number n) text = IsDigitSequence text × (decimal text ≡ n)
Spells Text text = (characters : List ℕ) × IsCharacters characters × (text ≡ quoted characters)
Spells (SymbolKind s) text = (text ≡ symbol_text s) ⊎ (text ≡ other_text s)
Spells End text = ⊥

-- 6.1.8: a comment opens with `{` or `(*`, and closes with `}` or `*)`, whichever opened it
abbrev pub opens_comment : List ℕ → Bool
opens_comment [] = false
opens_comment (c ∷ l) = nat_eq c 123 || (nat_eq c 40 && next_is 42 l)

abbrev pub closes_comment : List ℕ → Bool
closes_comment [] = false
closes_comment (c ∷ l) = nat_eq c 125 || (nat_eq c 42 && next_is 41 l)

-- what stands after an opening symbol: a closing symbol, or a byte at which none begins and then the same
abbrev pub IsClosed : List ℕ → Type 0
IsClosed [] = ⊥
IsClosed (c ∷ l) = (c ∷ l ≡ codes "}") ⊎ (c ∷ l ≡ codes "*)") ⊎ ((closes_comment (c ∷ l) ≡ false) × IsClosed l)

-- an opening symbol, and what stands after it
abbrev pub IsOpened : List ℕ → List ℕ → Type 0
IsOpened text after = (text ≡ codes "{" ++ after) ⊎ (text ≡ codes "(*" ++ after)

abbrev pub IsComment : List ℕ → Type 0
IsComment text = (after : List ℕ) × IsOpened text after × IsClosed after

abbrev pub IsSeparator : List ℕ → Type 0
IsSeparator text = (c : ℕ) × (text ≡ c ∷ []) × (separator c ≡ true)

-- ---- places

-- no token is longer at this place
abbrev pub IsLongest : List ℕ → List ℕ → Type 0
IsLongest text rest = (c : ℕ) (cs more : List ℕ) (k : TokenKind) → rest ≡ (c ∷ cs) ++ more
    → Spells k (text ++ (c ∷ cs)) → ⊥

-- 6.1.5: a scale factor goes on with digits, or with a sign and digits
abbrev pub scale_first : List ℕ → Bool
scale_first [] = false
scale_first (c ∷ l) = if nat_eq c 43 || nat_eq c 45 then digit_first l else digit c

-- 6.1.5: digits in front of this begin a real number: a point and a digit follow, or `e` and a scale factor
abbrev pub real_follows : List ℕ → Bool
real_follows [] = false
real_follows (c ∷ l) = if nat_eq c 46 then digit_first l else (if nat_eq c 101 || nat_eq c 69 then scale_first l
    else false)

-- a number is no part of a real one, no letter follows it (6.1.8), and it is not too large
abbrev pub IsAllowed : TokenKind → List ℕ → Type 0
IsAllowed (Number n) rest = (real_follows rest ≡ false) × (letter_first rest ≡ false) × (n ≤ maxint)
IsAllowed _ rest = Unit {0}

-- A piece in front of a rest: a separator or a comment, which have no kind, or the longest token, where no comment
-- opens.
abbrev pub Fits : List ℕ → List ℕ → Option TokenKind → Type 0
Fits text rest None = IsSeparator text ⊎ IsComment text
Fits text rest (Some k) = Spells k text × IsLongest text rest × IsAllowed k rest
    × (opens_comment (text ++ rest) ≡ false)

-- no piece fits in front
abbrev pub NothingFits : List ℕ → Type 0
NothingFits left = (text rest : List ℕ) (k : Option TokenKind) → left ≡ text ++ rest → Fits text rest k → ⊥

-- ---- why nothing fits

-- all the digits that stand first, and what follows them
abbrev pub FirstDigits : List ℕ → List ℕ → List ℕ → Type 0
FirstDigits left digits rest = (left ≡ digits ++ rest) × IsDigitSequence digits × (digit_first rest ≡ false)

-- real division, or a real number
abbrev pub BeginsReal : List ℕ → Type 0
BeginsReal left = (next_is 47 left ≡ true) ⊎ ((digits rest : List ℕ) × FirstDigits left digits rest
    × (real_follows rest ≡ true))

-- a number and a letter
abbrev pub BeginsJoined : List ℕ → Type 0
BeginsJoined left = (digits rest : List ℕ) × FirstDigits left digits rest × (letter_first rest ≡ true)

-- a number above maxint
abbrev pub BeginsTooLarge : List ℕ → Type 0
BeginsTooLarge left = (digits rest : List ℕ) × FirstDigits left digits rest × (maxint < decimal digits)

-- two apostrophes, and no third
abbrev pub BeginsEmptyString : List ℕ → Type 0
BeginsEmptyString left = (rest : List ℕ) × (left ≡ codes "''" ++ rest) × (next_is apostrophe rest ≡ false)

-- an apostrophe and the characters of a string, and then the end of the line or of the source
abbrev pub BeginsOpenString : List ℕ → Type 0
BeginsOpenString left = (characters rest : List ℕ) × (left ≡ (apostrophe ∷ doubled characters) ++ rest)
    × AllPass in_line characters × (ends_first rest ≡ true)

-- an opening symbol, and no closing symbol follows
abbrev pub BeginsOpenComment : List ℕ → Type 0
BeginsOpenComment left = (after : List ℕ) × IsOpened left after
    × ((front more : List ℕ) → after ≡ front ++ more → IsClosed front → ⊥)

-- a byte with which no piece begins, whatever follows it
abbrev pub BeginsBadByte : List ℕ → Type 0
BeginsBadByte left = (c : ℕ) × (more : List ℕ) × (left ≡ c ∷ more)
    × ((text rest : List ℕ) (k : Option TokenKind) → Fits (c ∷ text) rest k → ⊥)

-- The reason for which nothing fits. Of several, a real number goes first, then a letter after a number, and then a
-- number that is too large. The others exclude one another.
abbrev pub IsReason : LexReason → List ℕ → Type 0
IsReason RealWord left = BeginsReal left
IsReason Joined left = BeginsJoined left × ¬ BeginsReal left
IsReason TooLarge left = BeginsTooLarge left × ¬ BeginsReal left × ¬ BeginsJoined left
IsReason EmptyString left = BeginsEmptyString left
IsReason OpenString left = BeginsOpenString left
IsReason OpenComment left = BeginsOpenComment left
IsReason BadByte left = BeginsBadByte left × ¬ BeginsReal left
