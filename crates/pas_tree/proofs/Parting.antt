-- A tree that breaks off after some tokens, and the few tokens that may close it.
use Rattle.std.proofs.Common.{◌++◌, ◌+◌, ◌<◌, ◌∙◌, ◌∷◌, ◌≡◌, ◌≤◌, ◌⊎◌, [], ℕ, Bool, List, Option, ap, append_assoc, arith, false, inl, inr, length}
use Rattle.std.proofs.Common.{length-append, refl, subst, suc, sym, true, zero}
use Rattle.std.proofs.lemmas.List.{append-nil}
use Rattle.grammar.proofs.{Complete.Fits, Complete.Moves, Complete.calm_ahead, Larger.IsPart}
use Rattle.grammar.specs.{Deciding.both, Deciding.either, Deciding.solid, Nesting.Trees, Terminals.one_of, declared.terminals.Terminal.Terminal}
use Rattle.grammar.specs.Completing.{begins_calm, first_in, short}
use Rattle.grammar.specs.Grammars.{Grammar, IsLeaf, IsNothing, IsPair, Level, again, choice, greedy, level, loop, nothing, seq, token}
use Rattle.grammar.specs.Nodes.{Item, Leaf, Node, Nothing, Pair, ahead, leaf, spell}

-- ---- sizes

-- at least the tokens of the short trees that stand after any place in a rule
abbrev pub closing : (Level → Node) → Grammar → Node → ℕ
closing brief (token ks) s = 1
closing brief nothing s = 0
closing brief (seq a b) s = closing brief a s + closing brief b s + length (spell (short brief b s))
closing brief (choice ks a b) s = closing brief a s + closing brief b s
closing brief (greedy ks a) s = closing brief a s
closing brief (level l) s = 0
closing brief (loop a) s = closing brief a (short brief a Nothing)
closing brief again s = 0

-- a level that may stand before each token of a tree is one of these
abbrev pub begun_by : (Level → Bool) → Grammar → Bool
begun_by early (token ks) = true
begun_by early nothing = true
begun_by early (seq a b) = both (begun_by early a) (either (solid a) (begun_by early b))
begun_by early (choice ks a b) = both (begun_by early a) (begun_by early b)
begun_by early (greedy ks a) = begun_by early a
begun_by early (level l) = early l
begun_by early (loop a) = begun_by early a
begun_by early again = false

-- this much as often
abbrev pub times : ℕ → ℕ → ℕ
times zero k = 0
times (suc n) k = k + times n k

-- ---- where a list of two parts breaks off

pub broken_in : (a b front : List Item) (z : Item) (rest : List Item) → a ++ b ≡ front ++ z ∷ rest
    → ((more : List Item) × (a ≡ front ++ z ∷ more)) ⊎ ((f : List Item) × (front ≡ a ++ f) × (b ≡ f ++ z ∷ rest))
broken_in [] b front z rest e = inr (front, refl, e)
broken_in (y ∷ a) b [] z rest e = let head : y ≡ z = cc in inl (a, ap (λ (w : Item). w ∷ a) head)
broken_in (y ∷ a) b (w ∷ front) z rest e =
    let head : y ≡ w = cc in
    let tail : a ++ b ≡ front ++ z ∷ rest = cc in
    elim (broken_in a b front z rest tail) [
      | inl p ↦ inl (p.0, ap (λ (v : Item). v ∷ a) head ∙ ap (λ (l : List Item). w ∷ l) p.1)
      | inr p ↦ inr (p.0, ap (λ (v : Item). v ∷ front) (sym head) ∙ ap (λ (l : List Item). y ∷ l) p.1, p.2)
    ]

longer : (l front : List Item) (z : Item) (rest : List Item) → l ≡ front ++ z ∷ rest → length front < length l
longer l front z rest e = omega (arith, ap length e, length-append front (z ∷ rest))

module _ (calm : Terminal → Bool) where
  -- A tree whose spelling begins with these tokens and has at most this many more, in front of each calm terminal.
  pub record Closed (Q : Trees) (front : List Item) (most : ℕ) : Type 0 where
    pub tree : Node
    pub more : List Item
    pub begins : spell tree ≡ front ++ more
    pub few : length more ≤ most
    pub fits : Fits calm Q tree

  -- Where a tree of W breaks off after tokens of which P holds, a tree of V closes it.
  abbrev pub Closes : Trees → Trees → (List Item → Type 0) → ℕ → Type 0
  Closes W V P most = (x : Node) (h : Option Terminal) (front : List Item) (z : Item) (rest : List Item) → P front → W x h
      → spell x ≡ front ++ z ∷ rest → Closed V front most

  pub closed_map : (P Q : Trees) (front : List Item) (m n : ℕ) → m ≤ n → IsPart P Q → Closed P front m → Closed Q front n
  closed_map P Q front m n le f s = record {
    tree = s.tree;
    more = s.more;
    begins = s.begins;
    few = let k = s.few in omega arith;
    fits = λ h c. f s.tree h (s.fits h c);
  }

  -- before the first token
  pub at_once : (Q : Trees) (x : Node) (most : ℕ) → Fits calm Q x → length (spell x) ≤ most → Closed Q [] most
  at_once Q x most f le = record { tree = x; more = spell x; begins = refl; few = le; fits = f }

  pub token_closes : (ks : List Terminal) → one_of ks (first_in ks) ≡ true → (most : ℕ) → 1 ≤ most → (P : List Item → Type 0)
      → Closes (λ x h. IsLeaf ks x) (λ x h. IsLeaf ks x) P most
  token_closes ks ok most le P (Leaf item) h [] z rest p r e = at_once (λ x h. IsLeaf ks x) (leaf (first_in ks) 0) most (λ h c. ok) le
  token_closes ks ok most le P (Leaf item) h (y ∷ front) z rest p r e = absurd (let k = longer (item ∷ []) (y ∷ front) z rest e in omega arith)
  token_closes ks ok most le P Nothing h front z rest p r e = absurd r
  token_closes ks ok most le P (Pair x y) h front z rest p r e = absurd r

  -- an empty tree breaks off nowhere
  pub nothing_breaks : (x : Node) (front : List Item) (z : Item) (rest : List Item) → IsNothing x → spell x ≡ front ++ z ∷ rest → ⊥
  nothing_breaks (Leaf item) front z rest r e = r
  nothing_breaks Nothing front z rest r e = let k = longer [] front z rest e in omega arith
  nothing_breaks (Pair x y) front z rest r e = r

  -- the first part breaks off
  pub first_closed : (A B : Trees) (y : Node) → begins_calm calm (spell y) ≡ true → Fits calm B y → (front : List Item) (m n : ℕ)
      → m + length (spell y) ≤ n → Closed A front m → Closed (IsPair A B) front n
  first_closed A B y b f front m n le s = record {
    tree = Pair s.tree y;
    more = s.more ++ spell y;
    begins = ap (λ (l : List Item). l ++ spell y) s.begins ∙ append_assoc front s.more (spell y);
    few = let k = s.few in omega (arith, length-append s.more (spell y));
    fits = λ h c. (s.fits (ahead (spell y) h) (calm_ahead calm (spell y) h b c), f h c);
  }

  -- the second part breaks off
  pub second_closed : (A B : Trees) → Moves calm A → (x y w : Node) (h : Option Terminal) → A x (ahead (spell y) h) → begins_calm calm (spell w) ≡ true
      → Fits calm B w → (f : List Item) (z : Item) (rest : List Item) → spell y ≡ f ++ z ∷ rest → (n : ℕ) → length (spell w) ≤ n
      → Closed B f n → Closed (IsPair A B) (spell x ++ f) n
  second_closed A B move x y w h r b fits [] z rest e n le s = record {
    tree = Pair x w;
    more = spell w;
    begins = ap (λ (l : List Item). l ++ spell w) (sym (append-nil (spell x)));
    few = le;
    fits = λ i c. (move x (ahead (spell y) h) (ahead (spell w) i) (calm_ahead calm (spell w) i b c) r, fits i c);
  }
  second_closed A B move x y w h r b fits (v ∷ f) z rest e n le s = record {
    tree = Pair x s.tree;
    more = s.more;
    begins = ap (λ (l : List Item). spell x ++ l) s.begins ∙ sym (append_assoc (spell x) (v ∷ f) s.more);
    few = s.few;
    fits = λ i c. (
      subst (A x) (ap (λ (l : List Item). ahead l h) e ∙ sym (ap (λ (l : List Item). ahead l i) s.begins)) r,
      s.fits i c,
    );
  }
