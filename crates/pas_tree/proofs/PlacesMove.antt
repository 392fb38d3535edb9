-- In front of each calm terminal a place in a tree stays one.
use Rattle.std.proofs.Common.{◌∷◌, ◌≡◌, [], ℕ, Bool, List, Option, false, inl, inr, suc, true, zero}
use Rattle.std.proofs.lemmas.Bool.{and_parts}
use Rattle.grammar.{proofs.Decided.Allows, proofs.Deepest.Loop, specs.Completing.IsCompleted, specs.Completing.begins_calm, specs.Completing.spares}
use Rattle.grammar.proofs.Complete.{Moves, calls, good, level_moves, rule_completes, shortest}
use Rattle.grammar.specs.{Deciding.IsDecided, Deciding.LevelTables, Deciding.both, declared.terminals.Terminal.Terminal}
use Rattle.grammar.specs.Grammars.{FreeIn, Grammar, IsNone, Level, again, choice, greedy, level, loop, nothing, seq, token}
use Rattle.grammar.specs.Nesting.{BeginsAt, BeginsIn, Nested, Places, Trees, in_rounds, nowhere}
use Rattle.grammar.specs.Nodes.{Item, Leaf, Node, Nothing, Pair, ahead, spell}
use Rattle.pas_tree.proofs.Closing.{part_moves}

abbrev pub PlacesMove : (Terminal → Bool) → Places → Type 0
PlacesMove calm M = (x : Node) (h i : Option Terminal) (f : List Item) → Allows calm i → M x h f → M x i f

ahead_moves : (calm : Terminal → Bool) (P : Option Terminal → Type 0) → ((h i : Option Terminal) → Allows calm i → P h → P i) → (l : List Item)
    (h i : Option Terminal) → Allows calm i → P (ahead l h) → P (ahead l i)
ahead_moves calm P m [] h i c r = m h i c r
ahead_moves calm P m (z ∷ l) h i c r = r

module _ (calm : Terminal → Bool) (t : LevelTables) (g : Grammar) (ok : IsDecided t g ≡ true) (d : ℕ) (full : IsCompleted calm d t g ≡ true)
    (rank : Level → ℕ) where
  abbrev E : Level → Trees
  E = Nested t.rule

  abbrev good_at : Grammar → Node → Bool → Bool
  good_at = good calm t g ok d full

  abbrev trees_move : (b : Grammar) (s : Node) (v : Bool) → good_at b s v ≡ true → (V : Trees) → Moves calm V → Moves calm (FreeIn E b V)
  trees_move = part_moves calm t g ok d full rank

  module _ (D : Level → Places) (level_move : (l : Level) → PlacesMove calm (D l)) where
    pub rounds_move : (a : Grammar) → ((M : Places) → PlacesMove calm M → PlacesMove calm (BeginsIn E D a (Loop E a) M)) → (k : ℕ)
        → PlacesMove calm (in_rounds k (BeginsIn E D a (Loop E a)))
    rounds_move a c zero x h i f al r = absurd r
    rounds_move a c (suc k) x h i f al r = c (in_rounds k (BeginsIn E D a (Loop E a))) (rounds_move a c k) x h i f al r

    pub places_move : (b : Grammar) (s : Node) (v : Bool) → good_at b s v ≡ true → (V : Trees) (M : Places) → Moves calm V → PlacesMove calm M
        → PlacesMove calm (BeginsIn E D b V M)
    places_move (token ks) s v q V M m p x h i f al r = absurd r
    places_move nothing s v q V M m p x h i f al r = absurd r
    places_move (seq a b) s v q V M m p (Leaf item) h i f al r = absurd r
    places_move (seq a b) s v q V M m p Nothing h i f al r = absurd r
    places_move (seq a b) s v q V M m p (Pair x y) h i f al r =
        let w = shortest calm t g ok d full b s in
        let j = and_parts (both (good_at a s v) (good_at b s v)) (both (calls calm t g ok d full b s v) (begins_calm calm (spell w))) q in
        let k = and_parts (good_at a s v) (good_at b s v) j.0 in
        elim r [
          | inl z ↦ inl (
            ahead_moves calm (λ h. BeginsIn E D a V M x h f) (λ h i. places_move a s v k.0 V M m p x h i f) (spell y) h i al z.0,
            trees_move b s v k.1 V m y h i al z.1,
          )
          | inr z ↦ inr (
            z.0,
            z.1,
            ahead_moves calm (λ h. FreeIn E a V x h) (λ h i. trees_move a s v k.0 V m x h i) (spell y) h i al z.2,
            places_move b s v k.1 V M m p y h i z.0 al z.3,
          )
        ]
    places_move (choice ks a b) s v q V M m p x h i f al r =
        let k = and_parts (good_at a s v) (good_at b s v) q in
        elim r [ inl z ↦ inl (places_move a s v k.0 V M m p x h i f al z) | inr z ↦ inr (places_move b s v k.1 V M m p x h i f al z) ]
    places_move (greedy ks a) s v q V M m p x h i f al r = places_move a s v (and_parts (good_at a s v) (spares calm ks) q).0 V M m p x h i f al r
    places_move (level l) s v q V M m p x h i f al r = level_move l x h i f al r
    places_move (loop a) s v q V M m p x h i f al r =
        let w = shortest calm t g ok d full a Nothing in
        let k = and_parts (good_at a w true) (calls calm t g ok d full a Nothing false) q in
        (r.0, rounds_move a (λ N n. places_move a w true k.0 (Loop E a) N (trees_move (loop a) s v q V m) n) r.0 x h i f al r.1)
    places_move again s v q V M m p x h i f al r = p x h i f al r

  pub level_places_move : (n : ℕ) (l : Level) → PlacesMove calm (BeginsAt t.rule n l)
  unfolding BeginsAt
  level_places_move zero l x h i f al r = (r.0, level_moves calm t g ok d full l x h i al r.1)
  level_places_move (suc n) l x h i f al r =
      places_move (BeginsAt t.rule n) (level_places_move n) (t.rule l) Nothing false (rule_completes calm t g ok d full l) IsNone nowhere
      (λ x h i c r. absurd r) (λ x h i f c r. absurd r) x h i f al r
