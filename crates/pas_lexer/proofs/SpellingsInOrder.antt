-- The spellings of tokens, one after the other.
use Rattle.std.proofs.Common.{◌++◌, ◌+◌, ◌-◌, ◌<◌, ◌∙◌, ◌∷◌, ◌≡◌, ◌≤◌, ◌⊎◌, [], ℕ, List, None, Option, Some, ap, arith, drop, get_or, inl, inr, length}
use Rattle.std.proofs.Common.{length-append, length-drop, refl, slice_get, slice_range, subst, suc, sym, take, zero}
use Rattle.std.proofs.{Math.Seq.take-suc, lemmas.List.drop-append-le, lemmas.List.drop_at, lemmas.List.take-append-le, lemmas.List.take_all}
use Rattle.std.proofs.lemmas.Option.{none-some, same_Some, slice_get_read, slice_get_within}
use Rattle.pas_lexer.specs.{Lexed.AreSpelled, Lexed.IsSpelled, Lexed.Lexed, Lexed.spelling_of, declared.kinds.Token.Token, declared.spellings.Place.Place}

-- a part of the front stays where it is
part_stays : (l m : List ℕ) (a b : ℕ) → a ≤ b → b ≤ length l → slice_range (l ++ m) a b ≡ slice_range l a b
part_stays l m a b le inside = ap (take (b - a)) (drop-append-le a l m (omega arith)) ∙ take-append-le (b - a) (drop a l) m (omega (arith, length-drop a l))

part_added : (l m : List ℕ) (n : ℕ) → n ≡ length (l ++ m) → slice_range (l ++ m) (length l) n ≡ m
part_added l m n e = ap (take (n - length l)) (drop_at l m (length l) refl) ∙ take_all (n - length l) m (omega (arith, e, length-append l m))

get_last : {A : Type 0} (l : List A) (x y : A) (i : ℕ) → slice_get (l ++ x ∷ []) i ≡ Some y → (slice_get l i ≡ Some y) ⊎ ((i ≡ length l) × (x ≡ y))
get_last [] x y zero g = inr (refl, same_Some x y g)
get_last [] x y (suc i) g = absurd (none-some y g)
get_last (z ∷ l) x y zero g = inl g
get_last (z ∷ l) x y (suc i) g =
    elim (get_last l x y i g) [
      | inl h ↦ inl h
      | inr h ↦ inr (ap suc h.0, h.1)
    ]

abbrev place_of : ℕ → ℕ → Place
place_of start end = record { start = start; end = end }

stays : (source spellings more : List ℕ) (t : Token) (p : Place) → IsSpelled source spellings t p → IsSpelled source (spellings ++ more) t p
stays source spellings more t p h = record {
  forward = h.forward;
  inside = omega (arith, h.inside, length-append spellings more);
  reads = part_stays spellings more p.start p.end h.forward h.inside ∙ h.reads;
}

-- one token more
spelled_more : (source spellings more : List ℕ) (tokens : List Token) (places : List Place) (t : Token) (start end : ℕ)
    → AreSpelled source spellings tokens places → more ≡ spelling_of source t → start ≡ length spellings → end ≡ length (spellings ++ more)
    → AreSpelled source (spellings ++ more) (tokens ++ t ∷ []) (places ++ record { start = start; end = end } ∷ [])
spelled_more source spellings more tokens places t start end so_far is s e = record {
  count = omega (arith, length-append tokens (t ∷ []), length-append places (place_of start end ∷ []), so_far.count);
  each = each;
}
  where
    added : IsSpelled source (spellings ++ more) t (place_of start end)
    added = record {
      forward = omega (arith, s, e, length-append spellings more);
      inside = omega (arith, e);
      reads = ap (λ (n : ℕ). slice_range (spellings ++ more) n end) s ∙ part_added spellings more end e ∙ is;
    }

    each : (i : ℕ) (u : Token) (p : Place) → slice_get (tokens ++ t ∷ []) i ≡ Some u → slice_get (places ++ place_of start end ∷ []) i ≡ Some p
        → IsSpelled source (spellings ++ more) u p
    each i u p g h =
        elim (get_last tokens t u i g) [
          | inl a ↦ elim (get_last places (place_of start end) p i h) [
            | inl b ↦ stays source spellings more u p (so_far.each i u p a b)
            | inr b ↦ absurd (omega (arith, slice_get_within tokens i u a, b.0, so_far.count))
          ]
          | inr a ↦ elim (get_last places (place_of start end) p i h) [
            | inl b ↦ absurd (omega (arith, slice_get_within places i p b, a.0, so_far.count))
            | inr b ↦ subst (λ (x : Token). IsSpelled source (spellings ++ more) x p) a.1
                (subst (λ (x : Place). IsSpelled source (spellings ++ more) t x) b.1 added)
          ]
        ]

pub spelled_next : (source spellings all : List ℕ) (tokens : List Token) (i : ℕ) (d : Token) (places after : List Place) (start end : ℕ) → i < length tokens
    → AreSpelled source spellings (take i tokens) places
    → all ≡ spellings ++ spelling_of source (get_or tokens i d) → after ≡ places ++ record { start = start; end = end } ∷ [] → start ≡ length spellings
    → end ≡ length all → AreSpelled source all (take (i + 1) tokens) after
spelled_next source spellings all tokens i d places after start end lt so_far all_is after_is s e =
    let t : Token = get_or tokens i d in
    let next : i + 1 ≡ suc i = omega arith in
    let taken : take (i + 1) tokens ≡ take i tokens ++ t ∷ [] = ap (λ (n : ℕ). take n tokens) next ∙ take-suc tokens i d lt in
    subst (λ (x : List Place). AreSpelled source all (take (i + 1) tokens) x) (sym after_is)
    (subst (λ (x : List Token). AreSpelled source all x (places ++ place_of start end ∷ [])) (sym taken)
    (subst (λ (x : List ℕ). AreSpelled source x (take i tokens ++ t ∷ []) (places ++ place_of start end ∷ [])) (sym all_is)
    (spelled_more source spellings (spelling_of source t) (take i tokens) places t start end so_far refl s (e ∙ ap length all_is))))

-- the token of a number, and the place of its spelling
pub record Found (lexed : Lexed) (i : ℕ) (p : Place) (spellings : List ℕ) : Type 0 where
  pub token : Token
  pub is : slice_get lexed.tokens i ≡ Some token
  pub spelled : IsSpelled lexed.source spellings token p

pub found : (lexed : Lexed) (i : ℕ) (p : Place) (tokens : List Token) (source spellings : List ℕ) (places : List Place)
    → record { tokens = tokens; source = source } ≡ lexed → AreSpelled source spellings tokens places → i < length lexed.tokens → p ≡ get_or places i p
    → Found lexed i p spellings
found lexed i p tokens source spellings places view spelled lt e =
    let count : length tokens ≡ length lexed.tokens = ap (λ (l : Lexed). length l.tokens) view in
    let here : slice_get places i ≡ Some p = slice_get_read places (length places) i p refl (omega (arith, lt, count, spelled.count)) e in
    at (slice_get tokens i) refl (omega (arith, lt, count)) here
  where
    at : (o : Option Token) → slice_get tokens i ≡ o → i < length tokens → slice_get places i ≡ Some p → Found lexed i p spellings
    at None g lt here = absurd (missing tokens i lt g)
      where
        missing : (l : List Token) (i : ℕ) → i < length l → slice_get l i ≡ None → ⊥
        missing [] i lt g = omega (arith, lt)
        missing (t ∷ l) zero lt g = let never : Some t ≡ None = g in cc
        missing (t ∷ l) (suc i) lt g = missing l i (omega (arith, lt)) g
    at (Some t) g lt here = record {
      token = t;
      is = sym (ap (λ (l : Lexed). slice_get l.tokens i) view) ∙ g;
      spelled = subst (λ (l : Lexed). IsSpelled l.source spellings t p) view (spelled.each i t p g here);
    }

pub found_spelling : (lexed : Lexed) (i : ℕ) (p : Place) (spellings bytes : List ℕ) (t : Token) → Found lexed i p spellings → bytes ≡ spellings
    → slice_get lexed.tokens i ≡ Some t → take (p.end - p.start) (drop p.start bytes) ≡ spelling_of lexed.source t
found_spelling lexed i p spellings bytes t f e g =
    ap (λ (l : List ℕ). take (p.end - p.start) (drop p.start l)) e ∙ f.spelled.reads ∙ ap (spelling_of lexed.source) (same_Some f.token t (sym f.is ∙ g))
