-- Lists of values whose nodes are what a grammar repeats.
use Rattle.std.proofs.Common.{◌++◌, ◌<◌, ◌∷◌, ◌≡◌, ◌≤◌, [], ℕ, Global, List, None, Option, Some, Vec, arith, inl, inr, length, map, refl, suc, true, zero}
use Rattle.std.proofs.lemmas.{Bool.and_parts, List.length-append}
use Rattle.grammar.proofs.{Bools.either_parts, Lists.Repeats}
use Rattle.grammar.specs.{Deciding.solid, Loose.loose, Nesting.Trees, declared.terminals.Terminal.Terminal}
use Rattle.grammar.specs.Grammars.{FreeIn, Grammar, Level, again, choice, greedy, level, loop, many, nothing, rounds, seq, series, token, word}
use Rattle.grammar.specs.Nodes.{Leaf, Node, Nothing, Pair, SeriesPart, ahead, chain, leaf, row, spell, step_node}
use Rattle.pas_tree.proofs.{Covers.Covers, Covers.first_short, Covers.one, Covers.second_short, Memory.held, Told.left, Told.right}
use Rattle.pas_tree.specs.TypedTrees.{HasShortLists}

-- a separator and what stands at the end of a series after it, or nothing
abbrev pub end_node : {C : Type 0} → Terminal → (C → Node) → Option (ℕ × C) → Node
end_node k view None = Nothing
end_node k view (Some p) = Pair (leaf k p.0) (view p.1)

module _ (E : Level → Trees) where
  -- what is solid spells a token
  pub spells : (g : Grammar) → solid g ≡ true → (V : Trees) (x : Node) (h : Option Terminal) → FreeIn E (loose g) V x h → 0 < length (spell x)
  spells (token ks) ok V (Leaf item) h r = omega arith
  spells (token ks) ok V Nothing h r = absurd r
  spells (token ks) ok V (Pair x y) h r = absurd r
  spells nothing ok V x h r = absurd cc
  spells (seq a b) ok V (Leaf item) h r = absurd r
  spells (seq a b) ok V Nothing h r = absurd r
  spells (seq a b) ok V (Pair x y) h r = elim (either_parts (solid a) (solid b) ok) [
    | inl t ↦ omega (arith, spells a t V x (ahead (spell y) h) r.0, length-append (spell x) (spell y))
    | inr t ↦ omega (arith, spells b t V y h r.1, length-append (spell x) (spell y))
  ]
  spells (choice ks a b) ok V x h r =
      let o = and_parts (solid a) (solid b) ok in
      elim r [ inl t ↦ spells a o.0 V x h t | inr t ↦ spells b o.1 V x h t ]
  spells (greedy ks a) ok V x h r = absurd cc
  spells (level l) ok V x h r = absurd cc
  spells (loop a) ok V x h r = absurd cc
  spells again ok V x h r = absurd cc

module _ {E : Level → Trees} where
  -- ---- parts as often as a token leads to one

  module _ {A : Type 0} {g : Grammar} {view : A → Node} (ks : List Terminal) (repeats : Repeats g) (part : Covers E g view) where
    abbrev body : Grammar
    body = choice ks (seq g again) nothing

    -- a list of as many values as parts
    abbrev Listed : Node → Type 0
    Listed x = (l : List A) × (row (map view l) ≡ x) × (length l ≤ length (spell x))

    listed_in : (k : ℕ) (x : Node) (h : Option Terminal) → rounds k (FreeIn E (loose body)) x h → HasShortLists x → Listed x
    listed_in zero x h r short = absurd r
    listed_in (suc k) (Leaf item) h r short = absurd (elim r [ inl t ↦ t | inr t ↦ t ])
    listed_in (suc k) Nothing h r short = ([], refl, omega arith)
    listed_in (suc k) (Pair x y) h r short = elim r [
      | inl t ↦
          let V = rounds k (FreeIn E (loose body)) in
          let p = part.value V x (ahead (spell y) h) t.0 (first_short x y short) in
          let l = listed_in k y h t.1 (second_short x y short) in
          let more = spells E g repeats.is_solid V x (ahead (spell y) h) t.0 in
          (p.0 ∷ l.0, λ i. Pair (p.1 i) (l.1 i), omega (arith, more, l.2, length-append (spell x) (spell y)))
      | inr t ↦ absurd t
    ]

  pub listed : {A : Type 0} {ks : List Terminal} {g : Grammar} {view : A → Node} → Repeats g → Covers E g view
      → Covers E (many ks g) (λ (l : Vec A Global). row (map view l.items))
  listed {ks = ks} repeats part = record {
    value = λ V x h r short.
        let l = listed_in ks repeats part r.0 x h r.1 short in
        (held l.0 (omega (arith, l.2, short)), l.1);
  }

  -- ---- parts after separators, and an end

  module _ {A C : Type 0} {k : Terminal} {g z : Grammar} {view : C → Node} (ks : List Terminal) (step : A → SeriesPart)
      (part : Covers E (seq (word k) g) (λ a. step_node (step a))) (last : Covers E z view) where
    abbrev turn : Grammar
    turn = choice (k ∷ []) (seq (word k) (choice ks (seq g again) z)) nothing

    abbrev Stepped : Node → Type 0
    Stepped x = (l : List A) × (end : Option (ℕ × C)) × (chain (map step l) (end_node k view end) ≡ x) × (length l ≤ length (spell x))

    ended : (V : Trees) (s x : Node) (h : Option Terminal) → FreeIn E (word k) V s h → FreeIn E (loose z) V x h → HasShortLists (Pair s x) → Stepped (Pair s x)
    ended V s x h r t short =
        let p = (one {E = E}).value V s h r (first_short s x short) in
        let q = last.value V x h t (second_short s x short) in
        ([], Some (p.0, q.0), λ i. Pair (p.1 i) (q.1 i), omega arith)

    stepped_in : (n : ℕ) (x : Node) (h : Option Terminal) → rounds n (FreeIn E (loose turn)) x h → HasShortLists x → Stepped x
    stepped_in zero x h r short = absurd r
    stepped_in (suc n) (Leaf item) h r short = absurd (elim r [ inl t ↦ t | inr t ↦ t ])
    stepped_in (suc n) Nothing h r short = ([], None, refl, omega arith)
    stepped_in (suc n) (Pair s (Leaf item)) h r short = elim r [
      | inl t ↦ elim t.1 [ inl u ↦ absurd u | inr u ↦ ended (rounds n (FreeIn E (loose turn))) s (Leaf item) h t.0 u short ]
      | inr t ↦ absurd t
    ]
    stepped_in (suc n) (Pair s Nothing) h r short = elim r [
      | inl t ↦ elim t.1 [ inl u ↦ absurd u | inr u ↦ ended (rounds n (FreeIn E (loose turn))) s Nothing h t.0 u short ]
      | inr t ↦ absurd t
    ]
    stepped_in (suc n) (Pair s (Pair x y)) h r short =
        let V = rounds n (FreeIn E (loose turn)) in
        let whole = length-append (spell s) (spell x ++ spell y) in
        let tail = length-append (spell x) (spell y) in
        elim r [
          | inl t ↦ elim t.1 [
            | inl u ↦
                let p = part.value V (Pair s x) (ahead (spell y) h) (t.0, u.0) (omega (arith, short, whole, tail, length-append (spell s) (spell x))) in
                let l = stepped_in n y h u.1 (second_short x y (second_short s (Pair x y) short)) in
                let more = spells E (word k) refl V s h t.0 in
                (p.0 ∷ l.0, l.1, λ i. Pair (left (p.1 i)) (Pair (right (p.1 i)) (l.2 i)), omega (arith, more, l.3, whole, tail))
            | inr u ↦ ended V s (Pair x y) h t.0 u short
          ]
          | inr t ↦ absurd t
        ]

  pub stepped : {A C : Type 0} {k : Terminal} {ks : List Terminal} {g z : Grammar} {view : C → Node} (step : A → SeriesPart)
      → Covers E (seq (word k) g) (λ a. step_node (step a)) → Covers E z view
      → Covers E (series k ks g z) (λ (p : Vec A Global × Option (ℕ × C)). chain (map step p.0.items) (end_node k view p.1))
  stepped {ks = ks} step part last = record {
    value = λ V x h r short.
        let l = stepped_in ks step part last r.0 x h r.1 short in
        ((held l.0 (omega (arith, l.3, short)), l.1), l.2);
  }
