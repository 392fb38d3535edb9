-- A shaped tree is formed, or a node begins in it that is nested too deep.
use Rattle.std.proofs.Common.{◌++◌, ◌∙◌, ◌≡◌, ◌⊎◌, [], ℕ, List, None, Option, ap, inl, inr, refl, suc, sym, true, zero}
use Rattle.std.proofs.lemmas.List.{append-nil}
use Rattle.grammar.proofs.{Deepest.Loop, Deepest.whole_deep, Exact.ok_no_err, Larger.IsPart, Larger.all_in, Larger.free_up, Texts.formed_found}
use Rattle.grammar.specs.{Deciding.IsDecided, Deciding.LevelTables, Laws.IsFormedBy, Reading.Deep, Reading.read, declared.terminals.Terminal.Terminal}
use Rattle.grammar.specs.Grammars.{FreeIn, FreeWithin, Grammar, IsNone, Level, again, choice, greedy, level, loop, nothing, rounds, seq, token}
use Rattle.grammar.specs.Nesting.{BeginsAt, BeginsDeep, BeginsIn, IsShaped, Nested, Places, Trees, in_rounds, nowhere}
use Rattle.grammar.specs.Nodes.{Item, Leaf, Node, Nothing, Pair, ahead, spell}

abbrev pub IsPlace : Places → Places → Type 0
IsPlace M N = (x : Node) (h : Option Terminal) (f : List Item) → M x h f → N x h f

-- a place of larger languages
places_up : (E : Level → Trees) (D : Level → Places) (g : Grammar) (V W : Trees) (M N : Places) → IsPart V W → IsPlace M N
    → IsPlace (BeginsIn E D g V M) (BeginsIn E D g W N)
places_up E D (token ks) V W M N v m x h f r = r
places_up E D nothing V W M N v m x h f r = r
places_up E D (seq a b) V W M N v m (Leaf item) h f r = r
places_up E D (seq a b) V W M N v m Nothing h f r = r
places_up E D (seq a b) V W M N v m (Pair x y) h f r =
    elim r [
      | inl s ↦ inl (places_up E D a V W M N v m x (ahead (spell y) h) f s.0, free_up E E (λ v x h r. r) b V W v y h s.1)
      | inr s ↦ inr (s.0, s.1, free_up E E (λ v x h r. r) a V W v x (ahead (spell y) h) s.2, places_up E D b V W M N v m y h s.0 s.3)
    ]
places_up E D (choice ks a b) V W M N v m x h f r = elim r
    [ inl s ↦ inl (places_up E D a V W M N v m x h f s) | inr s ↦ inr (places_up E D b V W M N v m x h f s) ]
places_up E D (greedy ks a) V W M N v m x h f r = places_up E D a V W M N v m x h f r
places_up E D (level l) V W M N v m x h f r = r
places_up E D (loop a) V W M N v m x h f r = r
places_up E D again V W M N v m x h f r = m x h f r

-- a tree of the second languages, or a place in it
abbrev pub Splits : Trees → Trees → Places → Type 0
Splits V W M = (x : Node) (h : Option Terminal) → V x h → W x h ⊎ ((f : List Item) × M x h f)

module _ (E P : Level → Trees) (D : Level → Places) (level_splits : (l : Level) → Splits (E l) (P l) (D l)) where
  abbrev LoopOf : Grammar → Trees
  LoopOf a = Loop E a

  pair_splits : (A B : Trees) (A' B' : Trees) (M N : Places) (x y : Node) (h : Option Terminal) → A x (ahead (spell y) h) → B y h
      → A' x (ahead (spell y) h) ⊎ ((f : List Item) × M x (ahead (spell y) h) f) → B' y h ⊎ ((f : List Item) × N y h f)
      → (A' x (ahead (spell y) h) × B' y h) ⊎ ((f : List Item) ×
      ((M x (ahead (spell y) h) f × B y h) ⊎ ((rest : List Item) × (f ≡ spell x ++ rest) × A x (ahead (spell y) h) × N y h rest)))
  pair_splits A B A' B' M N x y h a b r s = elim r [
    | inl i ↦ elim s [ inl j ↦ inl (i, j) | inr j ↦ inr (spell x ++ j.0, inr (j.0, refl, a, j.1)) ]
    | inr i ↦ inr (i.0, inl (i.1, b))
  ]

  rounds_split : (a : Grammar) → ((V W : Trees) (M : Places) → Splits V W M → Splits (FreeIn E a V) (FreeIn P a W) (BeginsIn E D a V M)) → (k : ℕ)
      → Splits (rounds k (FreeIn E a)) (rounds k (FreeIn P a)) (in_rounds k (BeginsIn E D a (LoopOf a)))
  rounds_split a c zero x h r = absurd r
  rounds_split a c (suc k) x h r =
      elim (c (rounds k (FreeIn E a)) (rounds k (FreeIn P a)) (in_rounds k (BeginsIn E D a (LoopOf a))) (rounds_split a c k) x h r) [
        | inl s ↦ inl s
        | inr s ↦ inr (
          s.0,
          places_up E D a (rounds k (FreeIn E a)) (LoopOf a) (in_rounds k (BeginsIn E D a (LoopOf a)))
              (in_rounds k (BeginsIn E D a (LoopOf a))) (λ x h r. (k, r)) (λ x h f r. r) x h s.0 s.1,
        )
      ]

  splits : (g : Grammar) (V W : Trees) (M : Places) → Splits V W M → Splits (FreeIn E g V) (FreeIn P g W) (BeginsIn E D g V M)
  splits (token ks) V W M c x h r = inl r
  splits nothing V W M c x h r = inl r
  splits (seq a b) V W M c (Leaf item) h r = absurd r
  splits (seq a b) V W M c Nothing h r = absurd r
  splits (seq a b) V W M c (Pair x y) h r =
      pair_splits (FreeIn E a V) (FreeIn E b V) (FreeIn P a W) (FreeIn P b W) (BeginsIn E D a V M) (BeginsIn E D b V M) x y h r.0 r.1
      (splits a V W M c x (ahead (spell y) h) r.0) (splits b V W M c y h r.1)
  splits (choice ks a b) V W M c x h r = elim r [
    | inl s ↦ elim (splits a V W M c x h s) [ inl i ↦ inl (inl i) | inr i ↦ inr (i.0, inl i.1) ]
    | inr s ↦ elim (splits b V W M c x h s) [ inl i ↦ inl (inr i) | inr i ↦ inr (i.0, inr i.1) ]
  ]
  splits (greedy ks a) V W M c x h r = elim r [
    | inl s ↦ elim (splits a V W M c x h s) [ inl i ↦ inl (inl i) | inr i ↦ inr i ]
    | inr s ↦ inl (inr s)
  ]
  splits (level l) V W M c x h r = level_splits l x h r
  splits (loop a) V W M c x h r = elim (rounds_split a (splits a) r.0 x h r.1) [ inl s ↦ inl (r.0, s) | inr s ↦ inr (s.0, (r.0, s.1)) ]
  splits again V W M c x h r = c x h r

none_splits : Splits IsNone IsNone nowhere
none_splits x h r = absurd r

module _ (rule : Level → Grammar) where
  in_nested : (m : ℕ) (g : Grammar) → IsPart (FreeIn (FreeWithin rule m) g IsNone) (FreeIn (Nested rule) g IsNone)
  in_nested m g x h r = free_up (FreeWithin rule m) (Nested rule) (λ v x h r. (m, r)) g IsNone IsNone (all_in IsNone) x h r

  by_rule : (m : ℕ) (l : Level) → IsPart (FreeWithin rule m l) (FreeIn (Nested rule) (rule l) IsNone)
  unfolding FreeWithin
  by_rule zero l x h r = absurd r
  by_rule (suc m) l x h r = in_nested m (rule l) x h r

  level_splits : (n : ℕ) (l : Level) → Splits (Nested rule l) (FreeWithin rule n l) (BeginsAt rule n l)
  unfolding BeginsAt FreeWithin
  level_splits zero l x h r = inr ([], (refl, r))
  level_splits (suc n) l x h r = splits (Nested rule) (FreeWithin rule n) (BeginsAt rule n) (level_splits n) (rule l) IsNone IsNone nowhere none_splits x h
      (by_rule r.0 l x h r.1)

pub formed_or_deep : (t : LevelTables) (g : Grammar) (n : ℕ) (x : Node) → IsShaped t g x → IsFormedBy t n g x ⊎ ((f : List Item) × BeginsDeep t n g x f)
formed_or_deep t g n x s = splits (Nested t.rule) (FreeWithin t.rule n) (BeginsAt t.rule n) (level_splits t.rule n) g IsNone IsNone nowhere none_splits x None
    (in_nested t.rule s.0 g x None s.1)

pub formed_not_deep : (t : LevelTables) (g : Grammar) → IsDecided t g ≡ true → (n : ℕ) (x : Node) (f : List Item) → IsFormedBy t n g x → BeginsDeep t n g x f
    → ⊥
formed_not_deep t g ok n x f s m =
    let d = whole_deep t g ok n x f m in
    ok_no_err (x, []) (Deep (d.0.1 ++ [])) (sym (formed_found t g ok n x s) ∙ ap (read t n g) (sym (append-nil (spell x))) ∙ d.0.3)
