-- The last token.
use Rattle.std.proofs.Common.{◌++◌, ◌+◌, ◌<◌, ◌↔◌, ◌∙◌, ◌∷◌, ◌≡◌, ◌≢◌, [], ℕ, All, List, Some, ap, arith, get_or, length, length-append, slice_get, subst, suc}
use Rattle.std.proofs.{Common.sym, Common.zero, lemmas.Option.none-some, lemmas.Option.same_Some}
use Rattle.pas_lexer.specs.{Lexed.EndsOnce, Lexed.Lexed, declared.kinds.Token.Token, declared.kinds.TokenKind.TheVariants.End}

last_of : (front : List Token) (last t : Token) (i : ℕ) → last.kind ≡ End → All (λ u. u.kind ≢ End) front → slice_get (front ++ last ∷ []) i ≡ Some t
    → (t.kind ≡ End) ↔ (i + 1 ≡ length (front ++ last ∷ []))
last_of [] last t zero is others g = (λ e. omega arith, λ e. ap (λ (u : Token). u.kind) (sym (same_Some last t g)) ∙ is)
last_of [] last t (suc i) is others g = absurd (none-some t g)
last_of (u ∷ front) last t zero is others g =
    let same : u ≡ t = same_Some u t g in
    (λ e. absurd (others 0 u (omega arith) (ap (λ (v : Token). v.kind) same ∙ e)), λ e. absurd (omega (arith, e, length-append front (last ∷ []))))
last_of (u ∷ front) last t (suc i) is others g =
    let h = last_of front last t i is (λ k d l. others (suc k) d (omega arith)) g in
    (λ e. omega (arith, h.0 e), λ e. h.1 (omega (arith, e)))

get_is : (tokens : List Token) (i : ℕ) (t : Token) → i < length tokens → t ≡ get_or tokens i t → slice_get tokens i ≡ Some t
get_is [] i t lt e = absurd (omega (arith, lt))
get_is (u ∷ tokens) zero t lt e = ap Some (sym e)
get_is (u ∷ tokens) (suc i) t lt e = get_is tokens i t (omega (arith, lt)) e

-- of the tokens that end once, the token of a number is `End` where the number is the last
pub is_last : (lexed : Lexed) (tokens : List Token) (source : List ℕ) (i : ℕ) (t : Token) → record { tokens = tokens; source = source } ≡ lexed
    → EndsOnce tokens → i < length lexed.tokens → t ≡ get_or tokens i t → (t.kind ≡ End) ↔ (i + 1 ≡ length lexed.tokens)
is_last lexed tokens source i t view ended lt e =
    let same : tokens ≡ lexed.tokens = ap (λ (l : Lexed). l.tokens) view in
    let whole : tokens ≡ ended.0 ++ ended.1 ∷ [] = ended.2 in
    let got : slice_get tokens i ≡ Some t = get_is tokens i t (omega (arith, lt, ap length same)) e in
    subst (λ (ts : List Token). (t.kind ≡ End) ↔ (i + 1 ≡ length ts)) (sym whole
    ∙ same) (last_of ended.0 ended.1 t i ended.3 ended.4 (ap (λ (ts : List Token). slice_get ts i) (sym whole) ∙ got))
