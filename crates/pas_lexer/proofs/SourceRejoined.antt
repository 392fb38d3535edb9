-- The source again, from its tokens and what stands between them; and a string, from its characters.
use Rattle.std.proofs.Common.{◌++◌, ◌+◌, ◌-◌, ◌∙◌, ◌∷◌, ◌≡◌, ◌≢◌, ◌≤◌, ◌⊎◌, [], ℕ, All, List, None, Option, Some, ap, append_assoc, arith, drop, false, inl}
use Rattle.std.proofs.Common.{inr, length, length-append, length-drop, nat_eq, refl, slice_range, subst, sym, take, true}
use Rattle.std.proofs.Math.Seq.{take-add}
use Rattle.std.proofs.lemmas.List.{append-nil, drop-drop, drop_at, take-append-drop, take_at}
use Rattle.pas_lexer.proofs.{LastApostrophe.doubled_apostrophe, LastApostrophe.doubled_other, LongestRun.fact_of, LongestRun.rest_is}
use Rattle.pas_lexer.proofs.OneDivision.{all_append, all_cons, all_nil}
use Rattle.pas_lexer.specs.Division.{Divides, Gaps, InOrder, IsGap, IsLexed, Piece, line_at, rejoined, token_of, tokens_from}
use Rattle.pas_lexer.specs.Lexed.{characters, spelled_as, text_of}
use Rattle.pas_lexer.specs.Lexis.{Fits, IsComment, IsSeparator, apostrophe, doubled, quoted}
use Rattle.pas_lexer.specs.declared.kinds.{Token.Token, TokenKind.TokenKind, TokenKind.TheVariants.End, TokenKind.TheVariants.Text}

-- ---- parts of a source

slice_rest : (l : List ℕ) (a b : ℕ) → a ≤ b → slice_range l a b ++ drop b l ≡ drop a l
slice_rest l a b le =
    let place : a + (b - a) ≡ b = omega arith in
    ap (λ (x : List ℕ). slice_range l a b ++ x) (ap (λ (n : ℕ). drop n l) (sym place) ∙ sym (drop-drop (b - a) a l)) ∙ take-append-drop (b - a) (drop a l)

slice_more : (l : List ℕ) (a b n : ℕ) → a ≤ b → slice_range l a (b + n) ≡ slice_range l a b ++ take n (drop b l)
slice_more l a b n le =
    let count : b + n - a ≡ (b - a) + n = omega arith in
    let place : a + (b - a) ≡ b = omega arith in
    ap (λ (m : ℕ). take m (drop a l)) count ∙ take-add (b - a) n (drop a l) ∙ ap (λ (x : List ℕ). slice_range l a b ++ take n x) (drop-drop (b - a) a l
    ∙ ap (λ (m : ℕ). drop m l) place)

slice_none : (l : List ℕ) (a : ℕ) → slice_range l a a ≡ []
slice_none l a = let none : a - a ≡ 0 = omega arith in ap (λ (n : ℕ). take n (drop a l)) none

-- the rest of a division from a place on
next_rest : (source : List ℕ) (at : ℕ) (text rest : List ℕ) → drop at source ≡ text ++ rest → drop (at + length text) source ≡ rest
next_rest source at text rest e = sym (drop-drop (length text) at source) ∙ ap (drop (length text)) e ∙ drop_at text rest (length text) refl

next_inside : (source : List ℕ) (at : ℕ) (text rest : List ℕ) → at ≤ length source → drop at source ≡ text ++ rest → at + length text ≤ length source
next_inside source at text rest le e = omega (arith, ap length e, length-drop at source, length-append text rest)

-- the last token
pub end_of : List ℕ → List Token
end_of source = token_of (length source) (length source) (line_at source (length source)) (Some End)

-- ---- whole

whole_step : (source : List ℕ) (before at n : ℕ) (k : Option TokenKind) (ts : List Token) → before ≤ at
    → ((from : ℕ) → from ≤ at + n → rejoined source from ts ≡ drop from source) → rejoined source before (token_of at (at + n) (line_at source at) k ++ ts)
    ≡ drop before source
whole_step source before at n None ts le more = more before (omega arith)
whole_step source before at n (Some k) ts le more =
    ap (λ (x : List ℕ). slice_range source before at ++ slice_range source at (at + n) ++ x) (more (at + n) (omega arith))
    ∙ append_assoc (slice_range source before at) (slice_range source at (at + n)) (drop (at + n) source)
    ∙ ap (λ (x : List ℕ). slice_range source before at ++ x) (slice_rest source at (at + n) (omega arith))
    ∙ slice_rest source before at le

further : (source : List ℕ) (at : ℕ) (text rest : List ℕ) (ps : List Piece) → drop at source ≡ text ++ rest → Divides ps rest []
    → Divides ps (drop (at + length text) source) []
further source at text rest ps e d = subst (λ (x : List ℕ). Divides ps x []) (sym (next_rest source at text rest e)) d

pub whole_from : (source : List ℕ) (before at : ℕ) (ps : List Piece) → before ≤ at → at ≤ length source → Divides ps (drop at source) []
    → rejoined source before (tokens_from source at ps ++ end_of source) ≡ drop before source
unfolding end_of
whole_from source before at [] le inside d =
    let rest : slice_range source before (length source) ≡ drop before source = rest_is source before in
    ap (λ (x : List ℕ). slice_range source before (length source) ++ x ++ []) (slice_none source (length source))
    ∙ append-nil (slice_range source before (length source) ++ [])
    ∙ append-nil (slice_range source before (length source))
    ∙ rest
whole_from source before at (p ∷ ps) le inside d =
    ap (rejoined source before) (append_assoc (token_of at (at + length p.text) (line_at source at) p.kind) (tokens_from source (at + length p.text) ps)
    (end_of source))
    ∙ whole_step source before at (length p.text) p.kind (tokens_from source (at + length p.text) ps ++ end_of source) le
    (λ from lt. whole_from source from (at + length p.text) ps lt (next_inside source at p.text d.0 inside d.1) (further source at p.text d.0 ps d.1 d.3))

pub whole : (source : List ℕ) (tokens : List Token) → IsLexed source tokens → rejoined source 0 tokens ≡ source
unfolding end_of
whole source tokens is = ap (rejoined source 0) is.2 ∙ whole_from source 0 0 is.0 (omega arith) (omega arith) is.1

-- ---- in order

gap_more : (gs : List (List ℕ)) (gap text : List ℕ) → Gaps gs gap → IsSeparator text ⊎ IsComment text → Gaps (gs ++ text ∷ []) (gap ++ text)
gap_more [] gap text g h = ([], ap (λ (x : List ℕ). x ++ text) g ∙ sym (append-nil text), h, refl)
gap_more (t ∷ gs) gap text g h = (g.0 ++ text, ap (λ (x : List ℕ). x ++ text) g.1 ∙ append_assoc t g.0 text, g.2, gap_more gs g.0 text g.3 h)

order_step : (source : List ℕ) (before at n : ℕ) (k : Option TokenKind) (text rest : List ℕ) (ts : List Token) → before ≤ at → at + n ≤ length source
    → take n (drop at source) ≡ text → IsGap (slice_range source before at) → Fits text rest k
    → ((from : ℕ) → from ≤ at + n → IsGap (slice_range source from (at + n)) → InOrder source from ts)
    → InOrder source before (token_of at (at + n) (line_at source at) k ++ ts)
order_step source before at n None text rest ts le inside e gap h more =
    more before (omega arith) (subst IsGap (sym (slice_more source before at n le ∙ ap (λ (x : List ℕ). slice_range source before at ++ x) e))
    (gap.0 ++ text ∷ [], gap_more gap.0 (slice_range source before at) text gap.1 h))
order_step source before at n (Some k) text rest ts le inside e gap h more = (
  le,
  omega arith,
  inside,
  gap,
  more (at + n) (omega arith) ([], slice_none source (at + n)),
)

order_from : (source : List ℕ) (before at : ℕ) (ps : List Piece) → before ≤ at → at ≤ length source → IsGap (slice_range source before at)
    → Divides ps (drop at source) [] → InOrder source before (tokens_from source at ps ++ end_of source)
unfolding end_of
order_from source before at [] le inside gap d =
    let last : at ≡ length source = omega (arith, ap length d, length-drop at source) in
    (omega arith, omega arith, omega arith, subst (λ (n : ℕ). IsGap (slice_range source before n)) last gap, tt)
order_from source before at (p ∷ ps) le inside gap d =
    subst (InOrder source before) (sym (append_assoc (token_of at (at + length p.text) (line_at source at) p.kind) (tokens_from source (at + length p.text) ps)
    (end_of source)))
    (order_step source before at (length p.text) p.kind p.text d.0 (tokens_from source (at + length p.text) ps ++ end_of source) le
    (next_inside source at p.text d.0 inside d.1) (ap (take (length p.text)) d.1 ∙ take_at p.text d.0 (length p.text) refl) gap d.2
    (λ from lt gap. order_from source from (at + length p.text) ps lt (next_inside source at p.text d.0 inside d.1) gap
    (further source at p.text d.0 ps d.1 d.3)))

pub in_order : (source : List ℕ) (tokens : List Token) → IsLexed source tokens → InOrder source 0 tokens
unfolding end_of
in_order source tokens is = subst (InOrder source 0) (sym is.2) (order_from source 0 0 is.0 (omega arith) (omega arith) ([], slice_none source 0) is.1)

-- ---- places

abbrev FitsThere : List ℕ → Token → Type 0
FitsThere source t = t.kind ≢ End → Fits (text_of source t) (drop t.end source) (Some t.kind)

token_fits : (source : List ℕ) (at : ℕ) (k : Option TokenKind) (text rest : List ℕ) → drop at source ≡ text ++ rest → Fits text rest k
    → All (FitsThere source) (token_of at (at + length text) (line_at source at) k)
token_fits source at None text rest e h = all_nil (FitsThere source)
token_fits source at (Some k) text rest e h =
    let count : at + length text - at ≡ length text = omega arith in
    let same : slice_range source at (at + length text) ≡ text = ap (λ (n : ℕ). take n (drop at source)) count ∙ ap (take (length text)) e
    ∙ take_at text rest (length text) refl in
    all_cons (FitsThere source) (record { kind = k; start = at; end = at + length text; line = line_at source at }) []
    (λ other. subst (λ (x : List ℕ). Fits x (drop (at + length text) source) (Some k)) (sym same)
    (subst (λ (x : List ℕ). Fits text x (Some k)) (sym (next_rest source at text rest e)) h)) (all_nil (FitsThere source))

fits_from : (source : List ℕ) (at : ℕ) (ps : List Piece) → Divides ps (drop at source) [] → All (FitsThere source) (tokens_from source at ps ++ end_of source)
unfolding end_of
fits_from source at [] d = all_cons (FitsThere source) (record {
  kind = End;
  start = length source;
  end = length source;
  line = line_at source (length source);
}) [] (λ other. absurd (other refl)) (all_nil (FitsThere source))
fits_from source at (p ∷ ps) d =
    subst (All (FitsThere source)) (sym (append_assoc (token_of at (at + length p.text) (line_at source at) p.kind) (tokens_from source (at + length p.text) ps)
    (end_of source)))
    (all_append (FitsThere source) (token_of at (at + length p.text) (line_at source at) p.kind) (tokens_from source (at + length p.text) ps ++ end_of source)
    (token_fits source at p.kind p.text d.0 d.1 d.2) (fits_from source (at + length p.text) ps (further source at p.text d.0 ps d.1 d.3)))

pub fits : (source : List ℕ) (tokens : List Token) → IsLexed source tokens → All (λ t. t.kind ≢ End
    → Fits (text_of source t) (drop t.end source) (Some t.kind)) tokens
unfolding end_of
fits source tokens is = subst (All (FitsThere source)) (sym is.2) (fits_from source 0 is.0 is.1)

-- ---- characters

undoubled : (text : List ℕ) → characters false (doubled text ++ apostrophe ∷ []) ≡ text
undoubled [] = refl
undoubled (c ∷ cs) =
    elim (fact_of (nat_eq c apostrophe)) [
      | inl e ↦ ap (λ (x : List ℕ). characters false (x ++ apostrophe ∷ [])) (doubled_apostrophe c cs e) ∙ second c (doubled cs ++ apostrophe ∷ []) e
          ∙ ap (λ (x : List ℕ). c ∷ x) (undoubled cs)
      | inr e ↦ ap (λ (x : List ℕ). characters false (x ++ apostrophe ∷ [])) (doubled_other c cs e) ∙ single c (doubled cs ++ apostrophe ∷ []) e
          ∙ ap (λ (x : List ℕ). c ∷ x) (undoubled cs)
    ]
  where
    second : (c : ℕ) (l : List ℕ) → nat_eq c apostrophe ≡ true → characters false (c ∷ (c ∷ l)) ≡ c ∷ characters false l
    second c l e = rw e refl

    single : (c : ℕ) (l : List ℕ) → nat_eq c apostrophe ≡ false → characters false (c ∷ l) ≡ c ∷ characters false l
    single c l e = rw e refl

pub unquoted : (text : List ℕ) → spelled_as Text (quoted text) ≡ text
unquoted text = undoubled text
