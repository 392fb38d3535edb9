-- A source as a row of pieces, and the tokens of a source: ISO 7185 clause 6.1.
use Rattle.std.specs.Prelude.{◌++◌, ◌+◌, ◌∷◌, ◌≡◌, ◌≤◌, ◌⊎◌, [], ℕ, Err, List, None, Ok, Option, Result, Some, count_by}
use Rattle.std.specs.Prelude.{length, nat_eq, slice_range, take}
use Rattle.pas_lexer.specs.Lexed.{Lexed, text_of}
use Rattle.pas_lexer.specs.Lexis.{Fits, IsComment, IsReason, IsSeparator, NothingFits}
use Rattle.pas_lexer.specs.declared.kinds.{LexFault.LexFault, LexReason.LexReason, Token.Token}
use Rattle.pas_lexer.specs.declared.kinds.LexFault.TheVariants.{BadByte, EmptyString, Joined, Memory, OpenComment}
use Rattle.pas_lexer.specs.declared.kinds.LexFault.TheVariants.{OpenString, RealWord, TooLarge}
use Rattle.pas_lexer.specs.declared.kinds.LexReason.TheVariants as reason
use Rattle.pas_lexer.specs.declared.kinds.TokenKind.{TokenKind, TheVariants.End}

-- a separator or a comment, which have no kind, or a token
pub record Piece : Type 0 where
  pub text : List ℕ
  pub kind : Option TokenKind

-- The source is these pieces and then what is left, and each piece fits at its place.
abbrev pub Divides : List Piece → List ℕ → List ℕ → Type 0
Divides [] source left = source ≡ left
Divides (p ∷ ps) source left = (rest : List ℕ) × (source ≡ p.text ++ rest) × Fits p.text rest p.kind
    × Divides ps rest left

-- how many bytes the pieces have
abbrev pub size : List Piece → ℕ
size [] = 0
size (p ∷ ps) = length p.text + size ps

-- a line feed
abbrev pub line_feed : ℕ
line_feed = 10

-- one more than the number of line feeds before the place
abbrev pub line_at : List ℕ → ℕ → ℕ
line_at source place = 1 + count_by (λ c. nat_eq c line_feed) (take place source)

-- the token of a piece, and none of a separator or a comment
abbrev pub token_of : ℕ → ℕ → ℕ → Option TokenKind → List Token
token_of start end line None = []
token_of start end line (Some k) = record { kind = k; start = start; end = end; line = line } ∷ []

-- the tokens of the pieces that stand in the source from a place on
abbrev pub tokens_from : List ℕ → ℕ → List Piece → List Token
tokens_from source at [] = []
tokens_from source at (p ∷ ps) = token_of at (at + length p.text) (line_at source at) p.kind
    ++ tokens_from source (at + length p.text) ps

-- all of them, and the end of the source
abbrev pub tokens_of : List ℕ → List Piece → List Token
tokens_of source ps = tokens_from source 0 ps ++ token_of (length source) (length source)
    (line_at source (length source)) (Some End)

-- The source can be divided into pieces, and these are its tokens.
abbrev pub IsLexed : List ℕ → List Token → Type 0
IsLexed source tokens = (ps : List Piece) × Divides ps source [] × (tokens ≡ tokens_of source ps)

-- The pieces go well up to this byte, and there no piece fits, for this reason.
abbrev pub FailsFor : List ℕ → LexReason → ℕ → Type 0
FailsFor source r n = (ps : List Piece) × (left : List ℕ) × Divides ps source left × NothingFits left × IsReason r left
    × (n ≡ size ps)

-- for some reason
abbrev pub FailsAt : List ℕ → ℕ → Type 0
FailsAt source n = (r : LexReason) × FailsFor source r n

-- ---- answers

-- the fault for a reason, at a byte
abbrev pub lex_fault : LexReason → ℕ → LexFault
lex_fault reason.BadByte n = BadByte n
lex_fault reason.OpenComment n = OpenComment n
lex_fault reason.OpenString n = OpenString n
lex_fault reason.EmptyString n = EmptyString n
lex_fault reason.RealWord n = RealWord n
lex_fault reason.TooLarge n = TooLarge n
lex_fault reason.Joined n = Joined n

-- the fault is at the first piece that does not fit, for the reason that it names
abbrev pub IsFault : List ℕ → LexFault → Type 0
IsFault source (BadByte n) = FailsFor source reason.BadByte n
IsFault source (OpenComment n) = FailsFor source reason.OpenComment n
IsFault source (OpenString n) = FailsFor source reason.OpenString n
IsFault source (EmptyString n) = FailsFor source reason.EmptyString n
IsFault source (RealWord n) = FailsFor source reason.RealWord n
IsFault source (TooLarge n) = FailsFor source reason.TooLarge n
IsFault source (Joined n) = FailsFor source reason.Joined n
IsFault source Memory = Unit {0}

-- the answer is these tokens, or that memory ran out
abbrev pub GivesTokens : List Token → Result Lexed LexFault → Type 0
GivesTokens tokens (Ok lexed) = lexed.tokens ≡ tokens
GivesTokens tokens (Err e) = e ≡ Memory

-- the answer is this fault, or that memory ran out
abbrev pub RefusesWith : LexFault → Result Lexed LexFault → Type 0
RefusesWith fault (Ok lexed) = ⊥
RefusesWith fault (Err e) = (e ≡ fault) ⊎ (e ≡ Memory)

-- ---- the source again

-- What stands in front of each token, and its text, from a place on.
abbrev pub rejoined : List ℕ → ℕ → List Token → List ℕ
rejoined source at [] = []
rejoined source at (t ∷ ts) = slice_range source at t.start ++ text_of source t ++ rejoined source t.end ts

-- separators and comments, one after the other
abbrev pub Gaps : List (List ℕ) → List ℕ → Type 0
Gaps [] text = text ≡ []
Gaps (g ∷ gs) text = (rest : List ℕ) × (text ≡ g ++ rest) × (IsSeparator g ⊎ IsComment g) × Gaps gs rest

abbrev pub IsGap : List ℕ → Type 0
IsGap text = (gs : List (List ℕ)) × Gaps gs text

-- The tokens stand in the source one after the other, from a place on, with separators and comments between them.
abbrev pub InOrder : List ℕ → ℕ → List Token → Type 0
InOrder source at [] = Unit {0}
InOrder source at (t ∷ ts) = (at ≤ t.start) × (t.start ≤ t.end) × (t.end ≤ length source)
    × IsGap (slice_range source at t.start) × InOrder source t.end ts
