-- Values whose nodes are the trees of a grammar.
use Rattle.std.proofs.Common.{◌∙◌, ◌∷◌, ◌≡◌, ◌⊎◌, ℕ, List, None, Option, Some, ap, arith, inl, inr, refl, sym}
use Rattle.std.proofs.lemmas.List.{length-append}
use Rattle.grammar.proofs.{Bools.by_test, Testing.is-equal}
use Rattle.grammar.specs.{Loose.loose, Nesting.Trees, Terminals.is, declared.terminals.Terminal.Terminal}
use Rattle.grammar.specs.Grammars.{FreeIn, Grammar, Level, choice, greedy, nothing, seq, token, word}
use Rattle.grammar.specs.Nodes.{Leaf, Node, Nothing, Pair, ahead, leaf, spell}
use Rattle.pas_tree.specs.{Rules.optional, TypedTrees.HasShortLists}

-- Each tree of the grammar whose lists are short is the node of some value, whichever trees the levels have and `again`
-- stands for.
pub record Covers (E : Level → Trees) (g : Grammar) {A : Type 0} (view : A → Node) : Type 1 where
  pub value : (V : Trees) (x : Node) (h : Option Terminal) → FreeIn E (loose g) V x h → HasShortLists x → (a : A) × (view a ≡ x)

pub first_short : (x y : Node) → HasShortLists (Pair x y) → HasShortLists x
first_short x y s = omega (arith, s, length-append (spell x) (spell y))

pub second_short : (x y : Node) → HasShortLists (Pair x y) → HasShortLists y
second_short x y s = omega (arith, s, length-append (spell x) (spell y))

abbrev pub fork_node : {A B : Type 0} → (A → Node) → (B → Node) → A ⊎ B → Node
fork_node v w (inl a) = v a
fork_node v w (inr b) = w b

abbrev pub maybe_node : {A : Type 0} → (A → Node) → Option A → Node
maybe_node v None = Nothing
maybe_node v (Some a) = v a

module _ {E : Level → Trees} where
  -- ---- tokens

  pub one : {k : Terminal} → Covers E (word k) (leaf k)
  one {k} = record { value = found } where
    found : (V : Trees) (x : Node) (h : Option Terminal) → FreeIn E (word k) V x h → HasShortLists x → (n : ℕ) × (leaf k n ≡ x)
    found V (Leaf item) h r s = (item.number, ap (λ (j : Terminal). leaf j item.number) (sym (is-equal item.kind k r)))
    found V Nothing h r s = absurd r
    found V (Pair x y) h r s = absurd r

  -- one of several
  pub or : {A : Type 0} {k j : Terminal} {ks : List Terminal} {view : A → Node} → Covers E (word k) view → Covers E (token (j ∷ ks)) view
      → Covers E (token (k ∷ j ∷ ks)) view
  or {A} {k} {j} {ks} {view} f g = record { value = found } where
    found : (V : Trees) (x : Node) (h : Option Terminal) → FreeIn E (token (k ∷ j ∷ ks)) V x h → HasShortLists x → (a : A) × (view a ≡ x)
    found V (Leaf item) h r s = elim (by_test (is k item.kind)) [ inl t ↦ f.value V (Leaf item) h t s | inr t ↦ g.value V (Leaf item) h (rw t at r) s ]
    found V Nothing h r s = absurd r
    found V (Pair x y) h r s = absurd r

  -- ---- parts

  pub pair : {A B : Type 0} {a b : Grammar} {v : A → Node} {w : B → Node} → Covers E a v → Covers E b w
      → Covers E (seq a b) (λ (p : A × B). Pair (v p.0) (w p.1))
  pair {A} {B} {a} {b} {v} {w} f g = record { value = found } where
    found : (V : Trees) (x : Node) (h : Option Terminal) → FreeIn E (loose (seq a b)) V x h → HasShortLists x → (p : A × B) × (Pair (v p.0) (w p.1) ≡ x)
    found V (Leaf item) h r s = absurd r
    found V Nothing h r s = absurd r
    found V (Pair x y) h r s =
        let p = f.value V x (ahead (spell y) h) r.0 (first_short x y s) in
        let q = g.value V y h r.1 (second_short x y s) in
        ((p.0, q.0), λ i. Pair (p.1 i) (q.1 i))

  pub choose : {A : Type 0} {ks : List Terminal} {a b : Grammar} {view : A → Node} → Covers E a view → Covers E b view → Covers E (choice ks a b) view
  choose f g = record { value = λ V x h r s. elim r [ inl t ↦ f.value V x h t s | inr t ↦ g.value V x h t s ] }

  pub absent : {A : Type 0} {view : A → Node} (a : A) → view a ≡ Nothing → Covers E nothing view
  absent {A} {view} a e = record { value = found } where
    found : (V : Trees) (x : Node) (h : Option Terminal) → FreeIn E nothing V x h → HasShortLists x → (a : A) × (view a ≡ x)
    found V (Leaf item) h r s = absurd r
    found V Nothing h r s = (a, e)
    found V (Pair x y) h r s = absurd r

  -- what is left out only where it has to be may be left out anywhere
  pub greedily : {A : Type 0} {ks : List Terminal} {a : Grammar} {view : A → Node} (none : A) → view none ≡ Nothing → Covers E a view
      → Covers E (greedy ks a) view
  greedily {ks = ks} {a = a} {view = view} none e f = let c : Covers E (choice ks a nothing) view = choose f (absent none e) in record { value = c.value }

  -- the same trees as other values
  pub made : {A B : Type 0} {g : Grammar} {v : A → Node} {w : B → Node} (make : A → B) → ((a : A) → w (make a) ≡ v a) → Covers E g v → Covers E g w
  made make same f = record { value = λ V x h r s. let p = f.value V x h r s in (make p.0, same p.0 ∙ p.1) }

  -- values of two kinds
  pub fork : {A B : Type 0} {ks : List Terminal} {a b : Grammar} {v : A → Node} {w : B → Node} → Covers E a v → Covers E b w
      → Covers E (choice ks a b) (fork_node v w)
  fork f g = choose (made inl (λ _. refl) f) (made inr (λ _. refl) g)

  pub maybe : {A : Type 0} {ks : List Terminal} {a : Grammar} {v : A → Node} → Covers E a v → Covers E (optional ks a) (maybe_node v)
  maybe f = choose (made Some (λ _. refl) f) (absent None refl)

  -- ---- more parts in a row

  pub three : {A B C : Type 0} {a b c : Grammar} {u : A → Node} {v : B → Node} {w : C → Node} → Covers E a u → Covers E b v → Covers E c w
      → Covers E (seq a (seq b c)) (λ (p : A × B × C). Pair (u p.0) (Pair (v p.1) (w p.2)))
  three f g h = made (λ p. (p.0, p.1.0, p.1.1)) (λ p. refl) (pair f (pair g h))

  pub four : {A B C D : Type 0} {a b c d : Grammar} {t : A → Node} {u : B → Node} {v : C → Node} {w : D → Node} → Covers E a t → Covers E b u
      → Covers E c v → Covers E d w
      → Covers E (seq a (seq b (seq c d))) (λ (p : A × B × C × D). Pair (t p.0) (Pair (u p.1) (Pair (v p.2) (w p.3))))
  four f g h i = made (λ p. (p.0, p.1.0, p.1.1, p.1.2)) (λ p. refl) (pair f (three g h i))

  pub five : {A B C D F : Type 0} {a b c d f : Grammar} {s : A → Node} {t : B → Node} {u : C → Node} {v : D → Node} {w : F → Node} → Covers E a s
      → Covers E b t → Covers E c u → Covers E d v → Covers E f w
      → Covers E (seq a (seq b (seq c (seq d f)))) (λ (p : A × B × C × D × F). Pair (s p.0) (Pair (t p.1) (Pair (u p.2) (Pair (v p.3) (w p.4)))))
  five f g h i j = made (λ p. (p.0, p.1.0, p.1.1, p.1.2, p.1.3)) (λ p. refl) (pair f (four g h i j))
