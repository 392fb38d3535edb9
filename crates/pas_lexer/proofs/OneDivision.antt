-- Divisions of a source, and its tokens.
use Rattle.std.proofs.Common.{◌++◌, ◌+◌, ◌-◌, ◌<◌, ◌∙◌, ◌∷◌, ◌≡◌, ◌≢◌, ◌≤◌, ◌⊎◌, [], ℕ, All, Err, IfErr, IfOk, List, None, Ok, Option, Result, Some, ap}
use Rattle.std.proofs.Common.{append_assoc, arith, count_by, drop, inl, inr, length, length-append, length-drop, nat_eq, refl, subst, suc, sym, take, zero}
use Rattle.std.proofs.Math.{ListN.drop_of_length-le, Seq.take-add}
use Rattle.std.proofs.lemmas.List.{append-nil, drop-drop, drop_at, take_at, Sums.sum_by-append}
use Rattle.pas_lexer.proofs.OneReason.{piece_fails, reason_again, reason_is}
use Rattle.pas_lexer.proofs.ReadPieceFits.{failed, nothing_fits, pair_is, piece_again, piece_cut}
use Rattle.pas_lexer.specs.{Lexed.EndsOnce, Lexed.IsPlaced, Lexed.Lexed, Lexis.Fits, Lexis.IsReason, Lexis.NothingFits, Reading.Reading, Reading.piece_at}
use Rattle.pas_lexer.specs.Division.{Divides, FailsAt, FailsFor, GivesTokens, IsFault, IsLexed, Piece, RefusesWith, lex_fault, line_at, line_feed, size}
use Rattle.pas_lexer.specs.Division.{token_of, tokens_from, tokens_of}
use Rattle.pas_lexer.specs.declared.kinds.{LexFault.LexFault, LexReason.LexReason, Token.Token, TokenKind.TokenKind}
use Rattle.pas_lexer.specs.declared.kinds.LexFault.TheVariants.{BadByte, EmptyString, Joined, Memory, OpenComment, OpenString, RealWord, TooLarge}
use Rattle.pas_lexer.specs.declared.kinds.TokenKind.TheVariants.{End, Name, Number, Symbol as SymbolKind, Text, Word as WordKind}

-- ---- one division

pub nil_fits : NothingFits []
unfolding piece_at
nil_fits = nothing_fits [] LexReason.BadByte refl

piece_of : List ℕ → Option TokenKind → Piece
piece_of text kind = record { text = text; kind = kind }

same_piece : (p q : Piece) → p.text ≡ q.text → p.kind ≡ q.kind → p ≡ q
unfolding piece_of
same_piece p q e f = ap (λ (x : List ℕ). piece_of x p.kind) e ∙ ap (piece_of q.text) f

pub one_division : (ps qs : List Piece) (s a b : List ℕ) → Divides ps s a → Divides qs s b → NothingFits a → NothingFits b → (ps ≡ qs) × (a ≡ b)
one_division [] [] s a b d e f g = (refl, sym d ∙ e)
one_division [] (q ∷ qs) s a b d e f g = absurd (f q.text e.0 q.kind (sym d ∙ e.1) e.2)
one_division (p ∷ ps) [] s a b d e f g = absurd (g p.text d.0 p.kind (sym e ∙ d.1) d.2)
one_division (p ∷ ps) (q ∷ qs) s a b d e f g =
    let same : p.text ++ d.0 ≡ q.text ++ e.0 = sym d.1 ∙ e.1 in
    let read_both : (p.kind, length p.text) ≡ (q.kind, length q.text) = pair_is (p.kind, length p.text) (
      q.kind,
      length q.text,
    ) (sym (piece_again p.kind p.text d.0 d.2) ∙ ap piece_at same ∙ piece_again q.kind q.text e.0 e.2) in
    let kinds : p.kind ≡ q.kind = ap (λ (x : Option TokenKind × ℕ). x.0) read_both in
    let lengths : length p.text ≡ length q.text = ap (λ (x : Option TokenKind × ℕ). x.1) read_both in
    let texts : p.text ≡ q.text = sym (take_at p.text d.0 (length q.text) lengths) ∙ ap (take (length q.text)) same ∙ take_at q.text e.0 (length q.text) refl in
    let rests : d.0 ≡ e.0 = sym (drop_at p.text d.0 (length q.text) lengths) ∙ ap (drop (length q.text)) same ∙ drop_at q.text e.0 (length q.text) refl in
    let more = one_division ps qs e.0 a b (subst (λ (r : List ℕ). Divides ps r a) rests d.3) e.3 f g in
    let first : p ≡ q = same_piece p q texts kinds in
    (ap (λ (x : Piece). x ∷ ps) first ∙ ap (λ (xs : List Piece). q ∷ xs) more.0, more.1)

pub same_tokens : (source : List ℕ) (tokens others : List Token) → IsLexed source tokens → IsLexed source others → tokens ≡ others
same_tokens source tokens others a b = a.2 ∙ ap (tokens_of source) (one_division a.0 b.0 source [] [] a.1 b.1 nil_fits nil_fits).0 ∙ sym b.2

-- at a failing piece the same is left
same_left : (source : List ℕ) (r q : LexReason) (m n : ℕ) (a : FailsFor source r m) (b : FailsFor source q n) → (a.0 ≡ b.0) × (a.1 ≡ b.1)
same_left source r q m n a b = one_division a.0 b.0 source a.1 b.1 a.2 b.2 a.3 b.3

pub same_place : (source : List ℕ) (r q : LexReason) (m n : ℕ) → FailsFor source r m → FailsFor source q n → m ≡ n
same_place source r q m n a b = a.5 ∙ ap size (same_left source r q m n a b).0 ∙ sym b.5

pub same_reason : (source : List ℕ) (r q : LexReason) (m n : ℕ) → FailsFor source r m → FailsFor source q n → r ≡ q
same_reason source r q m n a b = reason_is r q (sym (reason_again r a.1 a.3 a.4) ∙ ap piece_at (same_left source r q m n a b).1 ∙ reason_again q b.1 b.3 b.4)

pub same_fault : (source : List ℕ) (m n : ℕ) → FailsAt source m → FailsAt source n → m ≡ n
same_fault source m n a b = same_place source a.0 b.0 m n a.1 b.1

-- a reason holds of some byte
never_nil : (r : LexReason) → IsReason r [] → ⊥
unfolding piece_at
never_nil r h = nothing_there r h (reason_again r [] nil_fits h)
  where
    nothing_there : (r : LexReason) → IsReason r [] → failed LexReason.BadByte ≡ Err r → ⊥
    nothing_there r h e = bad (subst (λ (x : LexReason). IsReason x []) (sym (reason_is LexReason.BadByte r e)) h)
      where
        bad : IsReason LexReason.BadByte [] → ⊥
        bad h = let never : [] ≡ h.0.0 ∷ h.0.1 = h.0.2 in cc

pub never_for : (source : List ℕ) (tokens : List Token) (r : LexReason) (n : ℕ) → IsLexed source tokens → FailsFor source r n → ⊥
never_for source tokens r n a b =
    let same : [] ≡ b.1 = (one_division a.0 b.0 source [] b.1 a.1 b.2 nil_fits b.3).1 in
    never_nil r (subst (IsReason r) (sym same) b.4)

pub never_both : (source : List ℕ) (tokens : List Token) (n : ℕ) → IsLexed source tokens → FailsAt source n → ⊥
never_both source tokens n a b = never_for source tokens b.0 n a b.1

-- ---- the pieces so far

divides_more : (ps : List Piece) (s text rest : List ℕ) (k : Option TokenKind) → Divides ps s (text ++ rest) → Fits text rest k
    → Divides (ps ++ record { text = text; kind = k } ∷ []) s rest
divides_more [] s text rest k d fits = (rest, d, fits, refl)
divides_more (p ∷ ps) s text rest k d fits = (d.0, d.1, d.2, divides_more ps d.0 text rest k d.3 fits)

size_more : (ps : List Piece) (p : Piece) → size (ps ++ p ∷ []) ≡ size ps + length p.text
size_more [] p = omega arith
size_more (q ∷ ps) p = omega (arith, size_more ps p)

tokens_more : (source : List ℕ) (at : ℕ) (ps : List Piece) (p : Piece) → tokens_from source at (ps ++ p ∷ [])
    ≡ tokens_from source at ps ++ token_of (at + size ps) (at + size ps + length p.text) (line_at source (at + size ps)) p.kind
tokens_more source at [] p = append-nil (token_of at (at + length p.text) (line_at source at) p.kind)
    ∙ ap (λ (n : ℕ). token_of n (n + length p.text) (line_at source n) p.kind) (omega arith)
tokens_more source at (q ∷ ps) p =
    let n : at + length q.text + size ps ≡ at + (length q.text + size ps) = omega arith in
    let first : List Token = token_of at (at + length q.text) (line_at source at) q.kind in
    let others : List Token = tokens_from source (at + length q.text) ps in
    ap (λ (ts : List Token). first ++ ts) (tokens_more source (at + length q.text) ps p
    ∙ ap (λ (n : ℕ). others ++ token_of n (n + length p.text) (line_at source n) p.kind) n)
    ∙ sym (append_assoc first others (token_of (at + (length q.text + size ps)) (at + (length q.text + size ps) + length p.text)
    (line_at source (at + (length q.text + size ps))) p.kind))

-- the pieces up to a place, and their tokens
pub record SoFar (source : List ℕ) (at : ℕ) (tokens : List Token) : Type 0 where
  pub pieces : List Piece
  pub divides : Divides pieces source (drop at source)
  pub tokens_are : tokens ≡ tokens_from source 0 pieces
  pub at_is : size pieces ≡ at

pub begun : (source : List ℕ) → SoFar source 0 []
begun source = record { pieces = []; divides = refl; tokens_are = refl; at_is = refl }

pub goes_on : (source : List ℕ) (at n : ℕ) (tokens : List Token) (k : Option TokenKind) → SoFar source at tokens → piece_at (drop at source) ≡ Ok (k, n)
    → SoFar source (at + n) (tokens ++ token_of at (at + n) (line_at source at) k)
goes_on source at n tokens k so_far e =
    let cut = piece_cut (drop at source) k n e in
    let p : Piece = record { text = cut.text; kind = k } in
    let rest : drop (at + n) source ≡ cut.rest = sym (drop-drop n at source) ∙ ap (drop n) cut.whole ∙ drop_at cut.text cut.rest n cut.len in
    let place : 0 + size so_far.pieces ≡ at = omega (arith, so_far.at_is) in
    let added : token_of (0 + size so_far.pieces) (0 + size so_far.pieces + length p.text) (line_at source (0 + size so_far.pieces)) k
    ≡ token_of at (at + n) (line_at source at) k =
    ap (λ (m : ℕ). token_of m (m + length p.text) (line_at source m) k) place ∙ ap (λ (m : ℕ). token_of at (at + m) (line_at source at) k) cut.len in
    record {
      pieces = so_far.pieces ++ p ∷ [];
      divides = subst (λ (r : List ℕ). Divides (so_far.pieces ++ p ∷ []) source r) (sym rest)
          (divides_more so_far.pieces source cut.text cut.rest k (subst (λ (r : List ℕ). Divides so_far.pieces source r) cut.whole so_far.divides) cut.fits);
      tokens_are = ap (λ (ts : List Token). ts ++ token_of at (at + n) (line_at source at) k) so_far.tokens_are
          ∙ sym (ap (λ (ts : List Token). tokens_from source 0 so_far.pieces ++ ts) added) ∙ sym (tokens_more source 0 so_far.pieces p);
      at_is = omega (arith, size_more so_far.pieces p, so_far.at_is, cut.len);
    }

pub line_goes_on : (source : List ℕ) (at n : ℕ) → line_at source (at + n) ≡ line_at source at + count_by (λ c. nat_eq c line_feed) (take n (drop at source))
line_goes_on source at n =
    let parts : count_by (λ c. nat_eq c line_feed) (take (at + n) source) ≡ count_by (λ c. nat_eq c line_feed) (take at source) + count_by
    (λ c. nat_eq c line_feed) (take n (drop at source)) =
    ap (count_by (λ c. nat_eq c line_feed)) (take-add at n source) ∙ sum_by-append _ (take at source) (take n (drop at source)) in
    omega (arith, parts)

pub inside : (source : List ℕ) (at : ℕ) (r : Reading) → at ≤ length source → r ≡ piece_at (drop at source)
    → IfOk r (λ x. (0 < x.1) × (at + x.1 ≤ length source))
inside source at (Err r) le e = tt
inside source at (Ok x) le e =
    let cut = piece_cut (drop at source) x.0 x.1 (sym e) in
    (cut.some, omega (arith, cut.len, ap length cut.whole, length-append cut.text cut.rest, length-drop at source))

-- ---- how it ends

pub lexed : (source : List ℕ) (at line : ℕ) (tokens : List Token) → length source ≤ at → at ≤ length source → line ≡ line_at source at → SoFar source at tokens
    → IsLexed source (tokens ++ token_of at at line (Some End))
lexed source at line tokens le ge line_is so_far =
    let place : at ≡ length source = omega arith in (
      so_far.pieces,
      subst (λ (r : List ℕ). Divides so_far.pieces source r) (drop_of_length-le source le) so_far.divides,
      ap (λ (ts : List Token). ts ++ token_of at at line (Some End)) so_far.tokens_are
          ∙ ap (λ (m : ℕ). tokens_from source 0 so_far.pieces ++ token_of at at m (Some End)) line_is
          ∙ ap (λ (m : ℕ). tokens_from source 0 so_far.pieces ++ token_of m m (line_at source m) (Some End)) place,
    )

fails_nonempty : (l : List ℕ) (r : LexReason) → 0 < length l → piece_at l ≡ Err r → IsReason r l
fails_nonempty [] r lt e = absurd (omega (arith, lt))
fails_nonempty (c ∷ l) r lt e = piece_fails c l r e

pub fails : (source : List ℕ) (at : ℕ) (tokens : List Token) (r : LexReason) → at < length source → SoFar source at tokens → piece_at (drop at source) ≡ Err r
    → FailsFor source r at
fails source at tokens r lt so_far e = (
  so_far.pieces,
  drop at source,
  so_far.divides,
  nothing_fits (drop at source) r e,
  fails_nonempty (drop at source) r (omega (arith, length-drop at source)) e,
  sym so_far.at_is,
)

-- the fault for the reason is the fault of the source
pub fault_is : (source : List ℕ) (r : LexReason) (n : ℕ) → FailsFor source r n → IsFault source (lex_fault r n)
fault_is source LexReason.BadByte n h = h
fault_is source LexReason.OpenComment n h = h
fault_is source LexReason.OpenString n h = h
fault_is source LexReason.EmptyString n h = h
fault_is source LexReason.RealWord n h = h
fault_is source LexReason.TooLarge n h = h
fault_is source LexReason.Joined n h = h

-- a fault of the source is that memory ran out, or the fault for a reason
is_fault : (source : List ℕ) (e : LexFault) → IsFault source e → ((r : LexReason) × (n : ℕ) × (e ≡ lex_fault r n) × FailsFor source r n) ⊎ (e ≡ Memory)
is_fault source (BadByte n) h = inl (LexReason.BadByte, n, refl, h)
is_fault source (OpenComment n) h = inl (LexReason.OpenComment, n, refl, h)
is_fault source (OpenString n) h = inl (LexReason.OpenString, n, refl, h)
is_fault source (EmptyString n) h = inl (LexReason.EmptyString, n, refl, h)
is_fault source (RealWord n) h = inl (LexReason.RealWord, n, refl, h)
is_fault source (TooLarge n) h = inl (LexReason.TooLarge, n, refl, h)
is_fault source (Joined n) h = inl (LexReason.Joined, n, refl, h)
is_fault source Memory h = inr refl

pub only : (source : List ℕ) (r : Result Lexed LexFault) → IfOk r (λ t. IsLexed source t.tokens) → IfErr r (IsFault source) → (tokens : List Token)
    → IsLexed source tokens → GivesTokens tokens r
only source (Ok t) found fault tokens is = same_tokens source t.tokens tokens found is
only source (Err e) found fault tokens is =
    elim (is_fault source e fault) [
      | inl h ↦ absurd (never_for source tokens h.0 h.1 is h.3)
      | inr h ↦ h
    ]

pub refused : (source : List ℕ) (r : Result Lexed LexFault) → IfOk r (λ t. IsLexed source t.tokens) → IfErr r (IsFault source) → (q : LexReason) (n : ℕ)
    → FailsFor source q n → RefusesWith (lex_fault q n) r
refused source (Ok t) found fault q n is = never_for source t.tokens q n found is
refused source (Err e) found fault q n is =
    elim (is_fault source e fault) [
      | inl h ↦ inl (h.2 ∙ ap (λ (x : LexReason). lex_fault x h.1) (same_reason source h.0 q h.1 n h.3 is)
          ∙ ap (lex_fault q) (same_place source h.0 q h.1 n h.3 is))
      | inr h ↦ inr h
    ]

-- ---- places

pub all_nil : (P : Token → Type 0) → All P []
all_nil P k d l = absurd (omega arith)

pub all_cons : (P : Token → Type 0) (t : Token) (ts : List Token) → P t → All P ts → All P (t ∷ ts)
all_cons P t ts h a zero d l = h
all_cons P t ts h a (suc k) d l = a k d (omega arith)

pub all_append : (P : Token → Type 0) (ts us : List Token) → All P ts → All P us → All P (ts ++ us)
all_append P [] us a b = b
all_append P (t ∷ ts) us a b = all_cons P t (ts ++ us) (a 0 t (omega arith)) (all_append P ts us (λ k d l. a (suc k) d (omega arith)) b)

size_is : (ps : List Piece) (source left : List ℕ) → Divides ps source left → size ps + length left ≡ length source
size_is [] source left d = omega (arith, ap length d)
size_is (p ∷ ps) source left d = omega (arith, size_is ps d.0 left d.3, ap length d.1, length-append p.text d.0)

token_placed : (source : List ℕ) (start end line : ℕ) (k : Option TokenKind) → start ≤ end → end ≤ length source
    → All (IsPlaced source) (token_of start end line k)
token_placed source start end line None a b = all_nil (IsPlaced source)
token_placed source start end line (Some k) a b = all_cons (IsPlaced source) (record { kind = k; start = start; end = end; line = line }) [] (
  a,
  b,
) (all_nil (IsPlaced source))

tokens_placed : (source : List ℕ) (at : ℕ) (ps : List Piece) → at + size ps ≤ length source → All (IsPlaced source) (tokens_from source at ps)
tokens_placed source at [] le = all_nil (IsPlaced source)
tokens_placed source at (p ∷ ps) le = all_append (IsPlaced source) (token_of at (at + length p.text) (line_at source at) p.kind)
    (tokens_from source (at + length p.text) ps) (token_placed source at (at + length p.text) (line_at source at) p.kind (omega arith) (omega arith))
    (tokens_placed source (at + length p.text) ps (omega arith))

pub placed : (source : List ℕ) (tokens : List Token) → IsLexed source tokens → All (IsPlaced source) tokens
placed source tokens is =
    subst (λ (ts : List Token). All (IsPlaced source) ts) (sym is.2)
    (all_append (IsPlaced source) (tokens_from source 0 is.0) (token_of (length source) (length source) (line_at source (length source)) (Some End))
    (tokens_placed source 0 is.0 (omega (arith, size_is is.0 source [] is.1)))
    (token_placed source (length source) (length source) (line_at source (length source)) (Some End) (omega arith) (omega arith)))

abbrev IsNoEnd : Token → Type 0
IsNoEnd t = t.kind ≢ End

kind_no_end : (k : TokenKind) (text rest : List ℕ) → Fits text rest (Some k) → k ≢ End
kind_no_end (WordKind w) text rest f e = cc
kind_no_end Name text rest f e = cc
kind_no_end (Number n) text rest f e = cc
kind_no_end Text text rest f e = cc
kind_no_end (SymbolKind s) text rest f e = cc
kind_no_end End text rest f e = absurd f.0

token_no_end : (start end line : ℕ) (k : Option TokenKind) (text rest : List ℕ) → Fits text rest k → All IsNoEnd (token_of start end line k)
token_no_end start end line None text rest f = all_nil IsNoEnd
token_no_end start end line (Some k) text rest f = all_cons IsNoEnd (record { kind = k; start = start; end = end; line = line }) [] (kind_no_end k text rest f)
    (all_nil IsNoEnd)

tokens_no_end : (source : List ℕ) (at : ℕ) (ps : List Piece) (s left : List ℕ) → Divides ps s left → All IsNoEnd (tokens_from source at ps)
tokens_no_end source at [] s left d = all_nil IsNoEnd
tokens_no_end source at (p ∷ ps) s left d = all_append IsNoEnd (token_of at (at + length p.text) (line_at source at) p.kind)
    (tokens_from source (at + length p.text) ps) (token_no_end at (at + length p.text) (line_at source at) p.kind p.text d.0 d.2)
    (tokens_no_end source (at + length p.text) ps d.0 left d.3)

pub ended : (source : List ℕ) (tokens : List Token) → IsLexed source tokens → EndsOnce tokens
ended source tokens is = (
  tokens_from source 0 is.0,
  record { kind = End; start = length source; end = length source; line = line_at source (length source) },
  is.2,
  refl,
  tokens_no_end source 0 is.0 source [] is.1,
)

token_few : (start end line : ℕ) (k : Option TokenKind) → length (token_of start end line k) ≤ 1
token_few start end line None = omega arith
token_few start end line (Some k) = omega arith

-- a piece adds at most one token
pub few_more : (tokens : List Token) (at n line : ℕ) (k : Option TokenKind) → length tokens ≤ at → 0 < n
    → length (tokens ++ token_of at (at + n) line k) ≤ at + n
few_more tokens at n line k few some = omega (arith, length-append tokens (token_of at (at + n) line k), token_few at (at + n) line k)

pub line_more : (source : List ℕ) (at n line feeds : ℕ) → line ≡ line_at source at
    → feeds ≡ count_by (λ c. nat_eq c line_feed) (take (at + n - at) (drop at source)) → line + feeds ≡ line_at source (at + n)
line_more source at n line feeds e f =
    let same : at + n - at ≡ n = omega arith in
    let counted : feeds ≡ count_by (λ c. nat_eq c line_feed) (take n (drop at source)) = f
    ∙ ap (λ (m : ℕ). count_by (λ c. nat_eq c line_feed) (take m (drop at source))) same in
    omega (arith, e, counted, line_goes_on source at n)

-- ---- a source is lexed, or fails

abbrev Ends : List ℕ → Type 0
Ends source = ((ps : List Piece) × Divides ps source []) ⊎ ((ps : List Piece) × (left : List ℕ) × (r : LexReason) × Divides ps source left × NothingFits left
    × IsReason r left)

one_step : (l : List ℕ) (r : Reading) → 0 < length l → piece_at l ≡ r → ((rest : List ℕ) → length rest < length l → Ends rest) → Ends l
one_step l (Err r) some e more = inr ([], l, r, refl, nothing_fits l r e, fails_nonempty l r some e)
one_step l (Ok x) some e more =
    let cut = piece_cut l x.0 x.1 e in
    let p : Piece = record { text = cut.text; kind = x.0 } in
    let less : length cut.rest < length l = omega (arith, cut.some, cut.len, ap length cut.whole, length-append cut.text cut.rest) in
    elim (more cut.rest less) [
      | inl d ↦ inl (p ∷ d.0, (cut.rest, cut.whole, cut.fits, d.1))
      | inr d ↦ inr (p ∷ d.0, d.1, d.2, (cut.rest, cut.whole, cut.fits, d.3), d.4, d.5)
    ]

ends_within : (n : ℕ) (l : List ℕ) → length l ≤ n → Ends l
ends_within n [] le = inl ([], refl)
ends_within zero (c ∷ l) le = absurd (omega arith)
ends_within (suc n) (c ∷ l) le = one_step (c ∷ l) (piece_at (c ∷ l)) (omega arith) refl (λ rest less. ends_within n rest (omega arith))

pub lexed_or_fails : (source : List ℕ) → ((tokens : List Token) × IsLexed source tokens) ⊎ ((n : ℕ) × FailsAt source n)
lexed_or_fails source =
    elim (ends_within (length source) source (omega arith)) [
      | inl d ↦ inl (tokens_of source d.0, (d.0, d.1, refl))
      | inr d ↦ inr (size d.0, (d.2, (d.0, d.1, d.3, d.4, d.5, refl)))
    ]
