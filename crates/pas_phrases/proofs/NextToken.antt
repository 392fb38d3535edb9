-- The next token of a list of terminals.
use Rattle.std.proofs.Common.{◌+◌, ◌<◌, ◌∙◌, ◌∷◌, ◌≡◌, ◌≤◌, [], ℕ, List, ap, arith, drop, false, get_or, length, refl, subst, suc, sym, true}
use Rattle.std.proofs.Math.{ListN.drop_of_length-le, Seq.drop-cons}
use Rattle.grammar.specs.{Nodes.Item, Nodes.next, Nodes.second, Reading.token_at, Terminals.is, Terminals.passes, declared.terminals.Terminal.Terminal}
use Rattle.pas_phrases.specs.Items.{items_from, numbered}

pub items_cons : (ks : List Terminal) (n : ℕ) (d : Terminal) → n < length ks
    → items_from ks n ≡ record { kind = get_or ks n d; number = n } ∷ items_from ks (n + 1)
unfolding items_from
items_cons ks n d h =
    let e : suc n ≡ n + 1 = omega arith in
    ap (numbered n) (drop-cons ks n d h) ∙ ap (λ (m : ℕ). record { kind = get_or ks n d; number = n } ∷ numbered (n + 1) (drop m ks)) e

pub items_end : (ks : List Terminal) (n : ℕ) → length ks ≤ n → items_from ks n ≡ []
unfolding items_from
items_end ks n h = rw (drop_of_length-le ks) refl

-- the token at a place of a list that is told in another way
pub token_there : (ks all : List Terminal) (at : ℕ) (found : Terminal) → ks ≡ all → at < length ks → found ≡ get_or ks at found
    → items_from all at ≡ record { kind = found; number = at } ∷ items_from all (at + 1)
token_there ks all at found same h e =
    subst (λ (l : List Terminal). items_from l at ≡ record { kind = found; number = at } ∷ items_from l (at + 1)) same
    (items_cons ks at found h ∙ ap (λ (k : Terminal). record { kind = k; number = at } ∷ items_from ks (at + 1)) (sym e))

pub token_nowhere : (ks all : List Terminal) (at : ℕ) → ks ≡ all → length ks ≤ at → items_from all at ≡ []
token_nowhere ks all at same h = subst (λ (l : List Terminal). items_from l at ≡ []) same (items_end ks at h)

pub second_there : (ks : List Terminal) (at : ℕ) → at < length ks → second (items_from ks at) ≡ next (items_from ks (at + 1))
second_there [] at h = absurd (omega arith)
second_there (k ∷ ks) at h = ap second (items_cons (k ∷ ks) at k h)

-- the first of several, and the others
pub token_first : (a b : Terminal) (ks : List Terminal) (l : List Item) → passes (a ∷ []) (next l) ≡ true → token_at (a ∷ b ∷ ks) l ≡ token_at (a ∷ []) l
token_first a b ks [] h = absurd cc
token_first a b ks (x ∷ l) h = let e : is a x.kind ≡ true = h in rw e refl

pub token_second : (a b : Terminal) (ks : List Terminal) (l : List Item) → passes (a ∷ []) (next l) ≡ false → token_at (a ∷ b ∷ ks) l ≡ token_at (b ∷ ks) l
token_second a b ks [] h = refl
token_second a b ks (x ∷ l) h = let e : is a x.kind ≡ false = h in rw e refl
