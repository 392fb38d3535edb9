-- Trees that begin with a token, and empty ones.
use Rattle.std.proofs.Common.{◌++◌, ◌∙◌, ◌∷◌, ◌≡◌, [], ℕ, Bool, List, Option, Some, ap, false, inl, inr, refl, subst, suc, sym, true, zero}
use Rattle.std.proofs.lemmas.Bool.{and_parts, or_parts}
use Rattle.grammar.proofs.{Bools.by_test, Bools.either_parts, Bools.implied, Deepest.Loop, Deepest.fold, Every.every_terminal, Larger.IsPart, Somewhere.nested}
use Rattle.grammar.proofs.Complete.{Fits, brief, calls, calm_ahead, good, has, has_fits, loop_fits, rule_completes, shortest, shortest_fits}
use Rattle.grammar.specs.{Completing.IsCompleted, Completing.begins_calm, Completing.spares, Nesting.Nested, Nesting.Trees, Reaching.blank, Reaching.eager}
use Rattle.grammar.specs.{Reaching.leads, Reaching.tables_at, Terminals.one_of, declared.terminals.Terminal.Terminal}
use Rattle.grammar.specs.Deciding.{IsDecided, LevelTables, both, either, first, implies, none, nullable}
use Rattle.grammar.specs.Grammars.{FreeIn, Grammar, IsNone, Level, again, choice, greedy, level, loop, nothing, rounds, seq, token}
use Rattle.grammar.specs.Nodes.{Item, Leaf, Node, Nothing, Pair, ahead, spell}

-- ---- tests

pub both_false : (a b : Bool) → a ≡ true → both a b ≡ false → b ≡ false
both_false true b e f = f
both_false false b e f = absurd cc

pub else_right : (a b : Bool) → a ≡ false → either a b ≡ true → b ≡ true
else_right true b e f = absurd cc
else_right false b e f = f

no_contradiction : (a : Bool) → a ≡ true → a ≡ false → ⊥
no_contradiction a e f = cc

-- an empty tree in front of a token
pub record Empty (Q : Trees) (h : Option Terminal) : Type 0 where
  pub tree : Node
  pub spells : spell tree ≡ []
  pub fits : Q tree h

pub empty_map : (P Q : Trees) (h : Option Terminal) → ((x : Node) → P x h → Q x h) → Empty P h → Empty Q h
empty_map P Q h f s = record { tree = s.tree; spells = s.spells; fits = f s.tree s.fits }

empty_pair : (P Q : Trees) (x y : Node) (h : Option Terminal) → spell x ≡ [] → spell y ≡ [] → P x h → Q y h
    → (spell x ++ spell y ≡ []) × (P x (ahead (spell y) h) × Q y h)
empty_pair P Q x y h e f p q =
    (ap (λ (l : List Item). l ++ spell y) e ∙ f, (subst (P x) (sym (ap (λ (l : List Item). ahead l h) f)) p, q))

module _ (T : LevelTables) where
  -- what leads to a part begins it
  leads_first : (ks : List Terminal) (a : Grammar) (f : Terminal → Bool) (v : Bool) (k : Terminal) → leads ks a ≡ true → first T a f v k ≡ false
      → one_of ks k ≡ false
  leads_first ks (token js) f v k d e = elim (by_test (one_of ks k)) [
    | inl y ↦ absurd (no_contradiction (one_of js k) (implied (one_of ks k) (one_of js k) (every_terminal (λ k. implies (one_of ks k) (one_of js k)) d k) y) e)
    | inr y ↦ y
  ]
  leads_first ks nothing f v k d e = absurd cc
  leads_first ks (seq a b) f v k d e = leads_first ks a f v k d (or_parts (first T a f v k) (both (nullable T a v) (first T b f v k)) e).0
  leads_first ks (choice js a b) f v k d e = absurd cc
  leads_first ks (greedy js a) f v k d e = absurd cc
  leads_first ks (level l) f v k d e = absurd cc
  leads_first ks (loop a) f v k d e = absurd cc
  leads_first ks again f v k d e = absurd cc

  -- ---- empty trees

  module _ (F : Level → Trees) (level_empty : (l : Level) → T.nullable_of l ≡ true → (h : Option Terminal) → Empty (F l) h) where
    pub empties : (b : Grammar) (f : Terminal → Bool) (v : Bool) → eager b ≡ true → (V : Trees) (k : Terminal) → (f k ≡ false → v ≡ true → Empty V (Some k))
        → first T b f v k ≡ false → nullable T b v ≡ true → Empty (FreeIn F b V) (Some k)
    empties (token ks) f v o V k i e n = absurd cc
    empties nothing f v o V k i e n = record { tree = Nothing; spells = refl; fits = tt }
    empties (seq a b) f v o V k i e n =
        let p = and_parts (eager a) (eager b) o in
        let m = and_parts (nullable T a v) (nullable T b v) n in
        let q = or_parts (first T a f v k) (both (nullable T a v) (first T b f v k)) e in
        let x = empties a f v p.0 V k i q.0 m.0 in
        let y = empties b f v p.1 V k i (both_false (nullable T a v) (first T b f v k) m.0 q.1) m.1 in
        let r = empty_pair (FreeIn F a V) (FreeIn F b V) x.tree y.tree (Some k) x.spells y.spells x.fits y.fits in
        record { tree = Pair x.tree y.tree; spells = r.0; fits = r.1 }
    empties (choice ks a b) f v o V k i e n =
        let p = and_parts (eager a) (eager b) o in
        let q = or_parts (first T a f v k) (first T b f v k) e in
        elim (either_parts (nullable T a v) (nullable T b v) n) [
          | inl m ↦ empty_map (FreeIn F a V) (FreeIn F (choice ks a b) V) (Some k) (λ x r. inl r) (empties a f v p.0 V k i q.0 m)
          | inr m ↦ empty_map (FreeIn F b V) (FreeIn F (choice ks a b) V) (Some k) (λ x r. inr r) (empties b f v p.1 V k i q.1 m)
        ]
    empties (greedy ks a) f v o V k i e n = let p = and_parts (eager a)
        (leads ks a) o in record { tree = Nothing; spells = refl; fits = inr (tt, leads_first ks a f v k p.1 e) }
    empties (level l) f v o V k i e n = level_empty l n (Some k)
    empties (loop a) f v o V k i e n = empty_map (FreeIn F a (rounds 0 (FreeIn F a))) (Loop F a) (Some k) (λ x r. (1, r))
        (empties a none false o (rounds 0 (FreeIn F a)) k (λ y z. absurd cc) e n)
    empties again f v o V k i e n = i e n

blanks : (F : Level → Trees) (has : Level → Bool) → ((l : Level) → has l ≡ true → (h : Option Terminal) → Empty (F l) h) → (b : Grammar) → blank has b ≡ true
    → (V : Trees) (h : Option Terminal) → Empty (FreeIn F b V) h
blanks F has i (token ks) o V h = absurd cc
blanks F has i nothing o V h = record { tree = Nothing; spells = refl; fits = tt }
blanks F has i (seq a b) o V h =
    let p = and_parts (blank has a) (blank has b) o in
    let x = blanks F has i a p.0 V h in
    let y = blanks F has i b p.1 V h in
    let r = empty_pair (FreeIn F a V) (FreeIn F b V) x.tree y.tree h x.spells y.spells x.fits y.fits in
    record { tree = Pair x.tree y.tree; spells = r.0; fits = r.1 }
blanks F has i (choice ks a b) o V h =
    elim (either_parts (blank has a) (blank has b) o) [
      | inl m ↦ empty_map (FreeIn F a V) (FreeIn F (choice ks a b) V) h (λ x r. inl r) (blanks F has i a m V h)
      | inr m ↦ empty_map (FreeIn F b V) (FreeIn F (choice ks a b) V) h (λ x r. inr r) (blanks F has i b m V h)
    ]
blanks F has i (greedy ks a) o V h = absurd cc
blanks F has i (level l) o V h = i l o h
blanks F has i (loop a) o V h = empty_map (FreeIn F a (rounds 0 (FreeIn F a))) (Loop F a) h (λ x r. (1, r)) (blanks F has i a o (rounds 0 (FreeIn F a)) h)
blanks F has i again o V h = absurd cc

-- ---- trees that begin with a token

module _ (calm : Terminal → Bool) where
  pub record Starting (Q : Trees) (z : Item) : Type 0 where
    pub tree : Node
    pub more : List Item
    pub begins : spell tree ≡ z ∷ more
    pub fits : Fits calm Q tree

  starting_map : (P Q : Trees) (z : Item) → IsPart P Q → Starting P z → Starting Q z
  starting_map P Q z f s = record { tree = s.tree; more = s.more; begins = s.begins; fits = λ h c. f s.tree h (s.fits h c) }

  module _ (t : LevelTables) (g : Grammar) (ok : IsDecided t g ≡ true) (d : ℕ) (full : IsCompleted calm d t g ≡ true) where
    -- what is known of the loop around
    pub record Begins (f : Terminal → Bool) (v : Bool) (s : Node) (e : Bool) (V : Trees) : Type 0 where
      pub shorts : e ≡ true → Fits calm V s
      pub starts : (z : Item) → f z.kind ≡ true → Starting V z
      pub empty : (k : Terminal) → f k ≡ false → v ≡ true → Empty V (Some k)

    module _ (T : LevelTables) (level_starts : (l : Level) (z : Item) → T.first_of l z.kind ≡ true → Starting (Nested t.rule l) z)
        (level_empty : (l : Level) → T.nullable_of l ≡ true → (h : Option Terminal) → Empty (Nested t.rule l) h) where
      pub starting : (b : Grammar) (f : Terminal → Bool) (v : Bool) (s : Node) (e : Bool) → eager b ≡ true → good calm t g ok d full b s e ≡ true → (V : Trees)
          → Begins f v s e V
          → (z : Item) → first T b f v z.kind ≡ true → Starting (FreeIn (Nested t.rule) b V) z
      starting (token ks) f v s e o q V i z h = record { tree = Leaf z; more = []; begins = refl; fits = λ j c. h }
      starting nothing f v s e o q V i z h = absurd cc
      starting (seq a b) f v s e o q V i z h =
          let p = and_parts (eager a) (eager b) o in
          let j = and_parts (both (good calm t g ok d full a s e) (good calm t g ok d full b s e))
          (both (calls calm t g ok d full b s e) (begins_calm calm (spell (shortest calm t g ok d full b s)))) q in
          let k = and_parts (good calm t g ok d full a s e) (good calm t g ok d full b s e) j.0 in
          let r = and_parts (calls calm t g ok d full b s e) (begins_calm calm (spell (shortest calm t g ok d full b s))) j.1 in
          elim (by_test (first T a f v z.kind)) [
            | inl y ↦
                let x = starting a f v s e p.0 k.0 V i z y in
                let w = shortest calm t g ok d full b s in
                record {
                  tree = Pair x.tree w;
                  more = x.more ++ spell w;
                  begins = ap (λ (l : List Item). l ++ spell w) x.begins;
                  fits = λ h c. (x.fits (ahead (spell w) h) (calm_ahead calm (spell w) h r.1 c), shortest_fits calm t g ok d full b s e r.0 V i.shorts h c);
                }
            | inr y ↦
                let m = and_parts (nullable T a v) (first T b f v z.kind)
                (else_right (first T a f v z.kind) (both (nullable T a v) (first T b f v z.kind)) y h) in
                let x = empties T (Nested t.rule) level_empty a f v p.0 V z.kind (i.empty z.kind) y m.0 in
                let w = starting b f v s e p.1 k.1 V i z m.1 in
                record {
                  tree = Pair x.tree w.tree;
                  more = w.more;
                  begins = ap (λ (l : List Item). l ++ spell w.tree) x.spells ∙ w.begins;
                  fits = λ h c. (subst (FreeIn (Nested t.rule) a V x.tree) (sym (ap (λ (l : List Item). ahead l h) w.begins)) x.fits, w.fits h c);
                }
          ]
      starting (choice ks a b) f v s e o q V i z h =
          let p = and_parts (eager a) (eager b) o in
          let k = and_parts (good calm t g ok d full a s e) (good calm t g ok d full b s e) q in
          elim (either_parts (first T a f v z.kind) (first T b f v z.kind) h) [
            | inl y ↦ starting_map (FreeIn (Nested t.rule) a V) (FreeIn (Nested t.rule) (choice ks a b) V) z (λ x h r. inl r)
                (starting a f v s e p.0 k.0 V i z y)
            | inr y ↦ starting_map (FreeIn (Nested t.rule) b V) (FreeIn (Nested t.rule) (choice ks a b) V) z (λ x h r. inr r)
                (starting b f v s e p.1 k.1 V i z y)
          ]
      starting (greedy ks a) f v s e o q V i z h =
          let p = and_parts (eager a) (leads ks a) o in
          let k = and_parts (good calm t g ok d full a s e) (spares calm ks) q in
          starting_map (FreeIn (Nested t.rule) a V) (FreeIn (Nested t.rule) (greedy ks a) V) z (λ x h r. inl r) (starting a f v s e p.0 k.0 V i z h)
      starting (level l) f v s e o q V i z h = level_starts l z h
      starting (loop a) f v s e o q V i z h =
          let w = shortest calm t g ok d full a Nothing in
          let k = and_parts (good calm t g ok d full a w true) (calls calm t g ok d full a Nothing false) q in
          starting_map (FreeIn (Nested t.rule) a (Loop (Nested t.rule) a)) (Loop (Nested t.rule) a) z (fold (Nested t.rule) a)
          (starting a none false w true o k.0 (Loop (Nested t.rule) a)
          (record {
            shorts = λ y. loop_fits calm (brief calm t g ok d full) (has calm t g ok d full) (Nested t.rule)
                (has_fits calm t g ok d full) a k.1;
            starts = λ z y. absurd cc;
            empty = λ k y n. absurd cc;
          }) z h)
      starting again f v s e o q V i z h = i.starts z h

    pub none_begins : Begins none false Nothing false IsNone
    none_begins = record { shorts = λ y. absurd cc; starts = λ z y. absurd cc; empty = λ k y n. absurd cc }

    -- ---- levels, by tables with nothing to spare

    pub level_empty_at : (m : ℕ) (l : Level) → (tables_at t m).nullable_of l ≡ true → (h : Option Terminal) → Empty (Nested t.rule l) h
    level_empty_at zero l e h = absurd cc
    level_empty_at (suc m) l e h =
        empty_map (FreeIn (Nested t.rule) (t.rule l) IsNone) (Nested t.rule l) h (λ x r. nested t.rule l x h r)
        (blanks (Nested t.rule) (tables_at t m).nullable_of (level_empty_at m) (t.rule l) e IsNone h)

    module _ (eager_rule : (l : Level) → eager (t.rule l) ≡ true) where
      pub level_starts_at : (m : ℕ) (l : Level) (z : Item) → (tables_at t m).first_of l z.kind ≡ true → Starting (Nested t.rule l) z
      level_starts_at zero l z e = absurd cc
      level_starts_at (suc m) l z e =
          starting_map (FreeIn (Nested t.rule) (t.rule l) IsNone) (Nested t.rule l) z (nested t.rule l)
          (starting (tables_at t m) (level_starts_at m) (level_empty_at m) (t.rule l) none false Nothing false (eager_rule l)
          (rule_completes calm t g ok d full l) IsNone none_begins z e)
