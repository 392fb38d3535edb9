-- A source with its tokens, as callers see it.
use Rattle.std.specs.Prelude.{if◌then◌else◌, ◌&&◌, ◌++◌, ◌<◌, ◌^◌, ◌∷◌, ◌≡◌, ◌≢◌, ◌≤◌, [], ℕ, All, Bool, List, Some}
use Rattle.std.specs.Prelude.{drop, false, length, nat_eq, not, slice_get, slice_range, true}
use Rattle.pas_lexer.specs.Lexis.{apostrophe, lower_case}
use Rattle.pas_lexer.specs.declared.{kinds.Token.Token, spellings.Place.Place}
use Rattle.pas_lexer.specs.declared.kinds.TokenKind.{TokenKind, TheVariants.End, TheVariants.Name, TheVariants.Text}

pub record Lexed : Type 0 where
  pub tokens : List Token
  pub source : List ℕ

-- the bytes of the source at which a token stands
abbrev pub text_of : List ℕ → Token → List ℕ
text_of source t = slice_range source t.start t.end

-- The characters in what follows a string's first apostrophe: of two apostrophes in a row one, and none of a single
-- one.
-- `pending` says that an apostrophe stands in front that has no other yet.
abbrev pub characters : Bool → List ℕ → List ℕ
characters pending [] = []
characters pending (c ∷ l) = if nat_eq c apostrophe && not pending then characters true l else c ∷ characters false l

-- Of a name the text in lower case, since the case of a letter does not matter (6.1.1), of a string its characters, and
-- of any other token the text.
abbrev pub spelled_as : TokenKind → List ℕ → List ℕ
spelled_as Name text = lower_case text
spelled_as Text text = characters false (drop 1 text)
spelled_as _ text = text

abbrev pub spelling_of : List ℕ → Token → List ℕ
spelling_of source t = spelled_as t.kind (text_of source t)

-- the token stands in the source
abbrev pub IsPlaced : List ℕ → Token → Type 0
IsPlaced source t = (t.start ≤ t.end) × (t.end ≤ length source)

-- the last token, and only the last, is `End`
abbrev pub EndsOnce : List Token → Type 0
EndsOnce tokens = (front : List Token) × (last : Token) × (tokens ≡ front ++ last ∷ []) × (last.kind ≡ End)
    × All (λ t. t.kind ≢ End) front

-- a token's spelling stands at this place of the spellings
pub record IsSpelled (source spellings : List ℕ) (t : Token) (p : Place) : Type 0 where
  pub forward : p.start ≤ p.end
  pub inside : p.end ≤ length spellings
  pub reads : slice_range spellings p.start p.end ≡ spelling_of source t

-- each token's spelling stands at the place of the token's number
pub record AreSpelled (source spellings : List ℕ) (tokens : List Token) (places : List Place) : Type 0 where
  pub count : length places ≡ length tokens
  pub each : (i : ℕ) (t : Token) (p : Place) → slice_get tokens i ≡ Some t → slice_get places i ≡ Some p
      → IsSpelled source spellings t p

-- What each `Tokens` keeps: tokens that stand in the source, their spellings, one `End`, and fewer tokens than a `u32`
-- can count.
pub record IsKept (source spellings : List ℕ) (places : List Place) (tokens : List Token) : Type 0 where
  pub placed : All (IsPlaced source) tokens
  pub spelled : AreSpelled source spellings tokens places
  pub ended : EndsOnce tokens
  pub few : length tokens < 2 ^ 32
