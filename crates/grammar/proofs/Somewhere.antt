-- Trees whose levels are each nested at some depth are nested at one.
use Rattle.std.proofs.Common.{◌+◌, ◌∷◌, ◌≤◌, [], ℕ, List, Option, arith, inl, inr, suc, zero}
use Rattle.grammar.proofs.Larger.{IsPart, all_in, free_up, free_within_up, none_in, rounds_map}
use Rattle.grammar.specs.{Grammars.token, Grammars.word, declared.terminals.Terminal.Terminal}
use Rattle.grammar.specs.Grammars.{FreeIn, FreeWithin, Grammar, IsLeaf, IsNone, Level, again, choice, greedy, level, loop, many, nothing, rounds, seq, series}
use Rattle.grammar.specs.Nodes.{Leaf, Node, Nothing, Pair, ahead, spell}

module _ (P : ℕ → Level → Node → Option Terminal → Type 0) (up : (n m : ℕ) → n ≤ m → (v : Level) → IsPart (P n v) (P m v)) where
  abbrev pub AtSome : Level → Node → Option Terminal → Type 0
  AtSome v x h = (n : ℕ) × P n v x h

  rounds_some : (F : (Node → Option Terminal → Type 0) → Node → Option Terminal → Type 0)
      (G : ℕ → (Node → Option Terminal → Type 0) → Node → Option Terminal → Type 0)
      → ((n m : ℕ) → n ≤ m → (k : ℕ) → IsPart (rounds k (G n)) (rounds k (G m)))
      → ((V : Node → Option Terminal → Type 0) (W : ℕ → Node → Option Terminal → Type 0) → ((n m : ℕ) → n ≤ m → IsPart (W n) (W m))
      → ((x : Node) (h : Option Terminal) → V x h → (n : ℕ) × W n x h)
      → (x : Node) (h : Option Terminal) → F V x h → (n : ℕ) × G n (W n) x h)
      → (k : ℕ) (x : Node) (h : Option Terminal) → rounds k F x h → (n : ℕ) × rounds k (G n) x h
  rounds_some F G mono c zero x h r = absurd r
  rounds_some F G mono c (suc k) x h r = c (rounds k F) (λ n. rounds k (G n)) (λ n m le. mono n m le k) (rounds_some F G mono c k) x h r

  pub at_some : (g : Grammar) (V : Node → Option Terminal → Type 0) (W : ℕ → Node → Option Terminal → Type 0) → ((n m : ℕ) → n ≤ m → IsPart (W n) (W m))
      → ((x : Node) (h : Option Terminal) → V x h → (n : ℕ) × W n x h) → (x : Node) (h : Option Terminal) → FreeIn AtSome g V x h
      → (n : ℕ) × FreeIn (P n) g (W n) x h
  at_some (token ks) V W mono c x h r = (0, r)
  at_some nothing V W mono c x h r = (0, r)
  at_some (seq a b) V W mono c (Leaf item) h r = absurd r
  at_some (seq a b) V W mono c Nothing h r = absurd r
  at_some (seq a b) V W mono c (Pair x y) h r =
      let p = at_some a V W mono c x (ahead (spell y) h) r.0 in
      let q = at_some b V W mono c y h r.1 in
      let n = p.0 + q.0 in (
        n,
        (
          free_up (P p.0) (P n) (up p.0 n (omega arith)) a (W p.0) (W n) (mono p.0 n (omega arith)) x (ahead (spell y) h) p.1,
          free_up (P q.0) (P n) (up q.0 n (omega arith)) b (W q.0) (W n) (mono q.0 n (omega arith)) y h q.1,
        ),
      )
  at_some (choice ks a b) V W mono c x h r = elim r [
    | inl s ↦ let p = at_some a V W mono c x h s in (p.0, inl p.1)
    | inr s ↦ let p =
        at_some b V W mono c x h s in (p.0, inr p.1)
  ]
  at_some (greedy ks a) V W mono c x h r = elim r [ inl s ↦ let p = at_some a V W mono c x h s in (p.0, inl p.1) | inr s ↦ (0, inr s) ]
  at_some (level v) V W mono c x h r = r
  at_some (loop a) V W mono c x h r =
      let p = rounds_some (FreeIn AtSome a) (λ n. FreeIn (P n) a)
      (λ n m le k. rounds_map (FreeIn (P n) a) (FreeIn (P m) a) (free_up (P n) (P m) (up n m le) a) k k (omega arith)) (at_some a) r.0 x h r.1 in
      (p.0, (r.0, p.1))
  at_some again V W mono c x h r = c x h r

  pub whole_some : (g : Grammar) (x : Node) (h : Option Terminal) → FreeIn AtSome g IsNone x h → (n : ℕ) × FreeIn (P n) g IsNone x h
  whole_some g x h r = at_some g IsNone (λ n. IsNone) (λ n m le. all_in IsNone) (λ x h r. absurd r) x h r

-- ---- levels by their rules

module _ (rule : Level → Grammar) where
  abbrev pub Nested : Level → Node → Option Terminal → Type 0
  Nested v x h = (n : ℕ) × FreeWithin rule n v x h

  pub nested : (v : Level) (x : Node) (h : Option Terminal) → FreeIn Nested (rule v) IsNone x h → Nested v x h
  unfolding FreeWithin
  nested v x h r = let p = whole_some (FreeWithin rule) (free_within_up rule) (rule v) x h r in (suc p.0, p.1)

  pub whole_nested : (g : Grammar) (x : Node) (h : Option Terminal) → FreeIn Nested g IsNone x h → (n : ℕ) × FreeIn (FreeWithin rule n) g IsNone x h
  whole_nested g x h r = whole_some (FreeWithin rule) (free_within_up rule) g x h r

-- ---- rows and series

module _ (E : Level → Node → Option Terminal → Type 0) where
  with_any : (g : Grammar) (V : Node → Option Terminal → Type 0) (x : Node) (h : Option Terminal) → FreeIn E g IsNone x h → FreeIn E g V x h
  with_any g V x h r = free_up E E (λ v x h r. r) g IsNone V (none_in V) x h r

  pub many_nil : (ks : List Terminal) (g : Grammar) (h : Option Terminal) → FreeIn E (many ks g) IsNone Nothing h
  many_nil ks g h = (1, inr tt)

  pub many_cons : (ks : List Terminal) (g : Grammar) (x y : Node) (h : Option Terminal) → FreeIn E g IsNone x (ahead (spell y) h)
      → FreeIn E (many ks g) IsNone y h → FreeIn E (many ks g) IsNone (Pair x y) h
  many_cons ks g x y h r s = (suc s.0, inl (with_any g (rounds s.0 (FreeIn E (choice ks (seq g again) nothing))) x (ahead (spell y) h) r, s.1))

  pub series_nil : (k : Terminal) (ks : List Terminal) (g z : Grammar) (h : Option Terminal) → FreeIn E (series k ks g z) IsNone Nothing h
  series_nil k ks g z h = (1, inr tt)

  pub series_end : (k : Terminal) (ks : List Terminal) (g z : Grammar) (s x : Node) (h : Option Terminal) → IsLeaf (k ∷ []) s → FreeIn E z IsNone x h
      → FreeIn E (series k ks g z) IsNone (Pair s x) h
  series_end k ks g z s x h l r = (
    1,
    inl (
      l,
      inr (with_any z
          (rounds 0 (FreeIn E (choice (k ∷ []) (seq (word k) (choice ks (seq g again) z)) nothing))) x h r),
    ),
  )

  pub series_cons : (k : Terminal) (ks : List Terminal) (g z : Grammar) (s x y : Node) (h : Option Terminal) → IsLeaf (k ∷ []) s
      → FreeIn E g IsNone x (ahead (spell y) h) → FreeIn E (series k ks g z) IsNone y h
      → FreeIn E (series k ks g z) IsNone (Pair s (Pair x y)) h
  series_cons k ks g z s x y h l r t = (
    suc t.0,
    inl (
      l,
      inl (
        with_any g (rounds t.0 (FreeIn E (choice (k ∷ []) (seq (word k) (choice ks (seq g again) z)) nothing))) x (ahead (spell y) h) r,
        t.1,
      ),
    ),
  )
