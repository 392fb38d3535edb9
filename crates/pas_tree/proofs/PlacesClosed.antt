-- Where a tree breaks off after a place in it, few tokens close it and keep the place.
use Rattle.std.proofs.Common.{◌*◌, ◌++◌, ◌+◌, ◌<◌, ◌∙◌, ◌∷◌, ◌≡◌, ◌≤◌, ◌⊎◌, [], ℕ, Bool, List, Option, ap, append_assoc, arith, inl, inr, length, refl, subst}
use Rattle.std.proofs.{Common.suc, Common.sym, Common.true, Common.zero, lemmas.Bool.and_parts, lemmas.List.append_cancel_left}
use Rattle.grammar.proofs.{Deepest.Loop, Deepest.fold, Deepest.forget, Larger.IsPart}
use Rattle.grammar.proofs.Complete.{Fits, Moves, brief, has, has_fits, loop_fits, shortest, shortest_fits}
use Rattle.grammar.specs.{Completing.IsCompleted, declared.terminals.Terminal.Terminal}
use Rattle.grammar.specs.Deciding.{IsDecided, LevelTables, closed, linear, solid}
use Rattle.grammar.specs.Grammars.{FreeIn, Grammar, IsPair, Level, again, choice, greedy, level, loop, nothing, seq, token}
use Rattle.grammar.specs.Nesting.{BeginsIn, InPair, Nested, Places, Trees, in_rounds}
use Rattle.grammar.specs.Nodes.{Item, Leaf, Node, Nothing, Pair, ahead, spell}
use Rattle.pas_tree.proofs.Closing.{Around, Inner, Roomy, Tail, closes, first_roomy, fork_roomy, part_moves, second_roomy, takes}
use Rattle.pas_tree.proofs.Parting.{Closed, Closes, broken_in, closed_map, first_closed, second_closed}
use Rattle.pas_tree.proofs.PlacesMove.{PlacesMove, places_move, rounds_move}
use Rattle.pas_tree.proofs.SoundParts.{Sound, close_at, fork_sound, greedy_sound, loop_sound, pair_sound}

-- where a tree of M breaks off after the token behind the place, one of M with the same place closes it
abbrev pub KeepsPlace : (Terminal → Bool) → Places → (List Item → Type 0) → ℕ → Type 0
KeepsPlace calm M P most = (x : Node) (h : Option Terminal) (f : List Item) (z y : Item) (rest : List Item) → P (f ++ z ∷ []) → M x h f
    → spell x ≡ (f ++ z ∷ []) ++ y ∷ rest → Closed calm (λ x h. M x h f) (f ++ z ∷ []) most

same_ahead : (f : List Item) (z : Item) (l m : List Item) (h i : Option Terminal) → ahead ((f ++ z ∷ []) ++ l) h ≡ ahead ((f ++ z ∷ []) ++ m) i
same_ahead [] z l m h i = refl
same_ahead (w ∷ f) z l m h i = refl

in_first : (A B : Trees) (M N : Places) (f : List Item) → IsPart (IsPair (λ x h. M x h f) B) (λ x h. InPair A B M N x h f)
in_first A B M N f (Leaf item) h r = r
in_first A B M N f Nothing h r = r
in_first A B M N f (Pair x y) h r = inl r

module _ (calm : Terminal → Bool) where
  -- the place and the break are in the second part
  second_keeps : (A B : Trees) (M N : Places) (x y : Node) (h : Option Terminal) (f r : List Item) (z v : Item) (rest : List Item) (most : ℕ)
      → f ≡ spell x ++ r → A x (ahead (spell y) h) → spell y ≡ (r ++ z ∷ []) ++ v ∷ rest → Closed calm (λ x h. N x h r) (r ++ z ∷ []) most
      → Closed calm (λ x h. InPair A B M N x h f) (f ++ z ∷ []) most
  second_keeps A B M N x y h f r z v rest most e a at s = record {
    tree = Pair x s.tree;
    more = s.more;
    begins = ap (λ (l : List Item). spell x ++ l) s.begins ∙ sym (append_assoc (spell x) (r ++ z ∷ []) s.more)
        ∙ ap (λ (l : List Item). l ++ s.more) (sym (append_assoc (spell x) r (z ∷ [])) ∙ ap (λ (l : List Item). l ++ z ∷ []) (sym e));
    few = s.few;
    fits = λ i c. inr (
      r,
      e,
      subst (A x) (ap (λ (l : List Item). ahead l h) at ∙ same_ahead r z (v ∷ rest) s.more h i ∙ sym (ap (λ (l : List Item). ahead l i) s.begins)) a,
      s.fits i c,
    );
  }

module _ (calm : Terminal → Bool) (t : LevelTables) (g : Grammar) (ok : IsDecided t g ≡ true) (d : ℕ) (full : IsCompleted calm d t g ≡ true)
    (rank : Level → ℕ) (D : Level → Places) where
  abbrev E : Level → Trees
  E = Nested t.rule

  abbrev room_in : ℕ → Grammar → List Item → Type 0
  room_in = Roomy calm t g ok d full rank

  abbrev inside : ℕ → List Item → Type 0
  inside = Inner calm t g ok d full rank

  -- what is known of the loop around
  pub record Near (s : Node) (v : Bool) (V : Trees) (M : Places) : Type 0 where
    pub move : Moves calm V
    pub shorts : v ≡ true → Fits calm V s
    pub place_moves : PlacesMove calm M
    pub is_tree : (x : Node) (h : Option Terminal) (f : List Item) → M x h f → V x h

  -- the loop around goes on at the end alone, and what it goes on with is closed
  abbrev pub Ends : ℕ → Grammar → Trees → Places → ℕ → Type 0
  Ends room b V M most = (closed b ≡ true) ⊎ ((linear b ≡ true) × Closes calm V V (inside room) most × KeepsPlace calm M (inside room) most)

  tail_of : (room : ℕ) (b : Grammar) (V : Trees) (M : Places) (m : ℕ) → Ends room b V M m → Tail calm t g ok d full rank room b V V m
  tail_of room b V M m r = elim r [ inl c ↦ inl c | inr c ↦ inr (c.0, c.1) ]

  around_of : (s : Node) (v : Bool) (V : Trees) (M : Places) → Near s v V M → Around calm t g ok d full rank s v V V
  around_of s v V M i = record { part = λ x h r. r; move = i.move; shorts = i.shorts }

  first_ends : (room : ℕ) (a b : Grammar) (V : Trees) (M : Places) (m n : ℕ) → Ends room (seq a b) V M m → Ends room a V M n
  first_ends room a b V M m n r = elim r [ inl c ↦ inl (and_parts (closed a) (closed b) c).0 | inr c ↦ inl (and_parts (closed a) (linear b) c.0).0 ]

  second_ends : (room : ℕ) (a b : Grammar) (V : Trees) (M : Places) (m : ℕ) → Ends room (seq a b) V M m → Ends room b V M m
  second_ends room a b V M m r = elim r
      [ inl c ↦ inl (and_parts (closed a) (closed b) c).1 | inr c ↦ inr ((and_parts (closed a) (linear b) c.0).1, c.1, c.2) ]

  fork_ends : (room : ℕ) (ks : List Terminal) (a b : Grammar) (V : Trees) (M : Places) (m : ℕ) → Ends room (choice ks a b) V M m
      → Ends room a V M m × Ends room b V M m
  fork_ends room ks a b V M m r = elim r [
    | inl c ↦ let p = and_parts (closed a) (closed b) c in (inl p.0, inl p.1)
    | inr c ↦ let p = and_parts (linear a) (linear b) c.0 in (inr (p.0, c.1, c.2), inr (p.1, c.1, c.2))
  ]

  module _ (room most : ℕ) (low : (l : Level) → rank l ≤ 1) (level_move : (l : Level) → PlacesMove calm (D l))
      (level_tree : (l : Level) (x : Node) (h : Option Terminal) (f : List Item) → D l x h f → E l x h)
      (level_closes : (l : Level) → Closes calm (E l) (E l) (λ front. 2 * length front + rank l < room) most)
      (level_keeps : (l : Level) → KeepsPlace calm (D l) (λ front. 2 * length front + rank l < room) most) where
    before : (a b : Grammar) (front : List Item) → room_in room (seq a b) front → room_in room a front
    before = first_roomy calm t g ok d full rank room most low level_closes

    after : (a b : Grammar) (front f : List Item) (x : Node) → front ≡ spell x ++ f → (solid a ≡ true → 0 < length (spell x))
        → room_in room (seq a b) front → room_in room b f
    after = second_roomy calm t g ok d full rank room most low level_closes

    rounds_keep : (a : Grammar) (m : ℕ)
        → ((k : ℕ) → KeepsPlace calm (in_rounds k (BeginsIn E D a (Loop E a))) (inside room) m
        → KeepsPlace calm (in_rounds (suc k) (BeginsIn E D a (Loop E a))) (room_in room a) m)
        → (k : ℕ) → KeepsPlace calm (in_rounds k (BeginsIn E D a (Loop E a))) (inside room) m
    rounds_keep a m c zero x h f z y rest p r e = absurd r
    rounds_keep a m c (suc k) x h f z y rest p r e = c k (rounds_keep a m c k) x h f z y rest (inl p) r e

    loop_keeps : (a : Grammar) (m : ℕ)
        → ((k : ℕ) → KeepsPlace calm (in_rounds k (BeginsIn E D a (Loop E a))) (inside room) m
        → KeepsPlace calm (in_rounds (suc k) (BeginsIn E D a (Loop E a))) (room_in room a) m)
        → (k : ℕ) → KeepsPlace calm (in_rounds k (BeginsIn E D a (Loop E a))) (room_in room a) m
    loop_keeps a m c zero x h f z y rest p r e = absurd r
    loop_keeps a m c (suc k) x h f z y rest p r e = c k (rounds_keep a m c k) x h f z y rest p r e

    rounds_tree : (a : Grammar) (k : ℕ) (x : Node) (h : Option Terminal) (f : List Item) → in_rounds k (BeginsIn E D a (Loop E a)) x h f → Loop E a x h
    rounds_tree a zero x h f r = absurd r
    rounds_tree a (suc k) x h f r = fold E a x h
        (forget E D level_tree a (Loop E a) (in_rounds k (BeginsIn E D a (Loop E a))) (rounds_tree a k) x h f r)

    pub keeps : (b : Grammar) {s : Node} {v : Bool} {m : ℕ} {V : Trees} {M : Places} → Sound calm t g ok d full most b s v m → Near s v V M
        → Ends room b V M m → KeepsPlace calm (BeginsIn E D b V M) (room_in room b) m
    keeps (token ks) {s} {v} {m} {V} {M} c i u x h f z y rest p r e = absurd r
    keeps nothing {s} {v} {m} {V} {M} c i u x h f z y rest p r e = absurd r
    keeps (seq a b) {s} {v} {m} {V} {M} c i u (Leaf item) h f z y rest p r e = absurd r
    keeps (seq a b) {s} {v} {m} {V} {M} c i u Nothing h f z y rest p r e = absurd r
    keeps (seq a b) {s} {v} {m} {V} {M} c i u (Pair x x') h f z y rest p r e =
        let k = pair_sound calm t g ok d full a b c in
        let w = shortest calm t g ok d full b s in
        let short_b : Fits calm (FreeIn E b V) w = shortest_fits calm t g ok d full b s v k.calls V i.shorts in
        let A = FreeIn E a V in
        let B = FreeIn E b V in
        let P = BeginsIn E D a V M in
        let Q = BeginsIn E D b V M in
        let front : List Item = f ++ z ∷ [] in
        elim r [
          | inl a' ↦
              elim (broken_in (spell x) (spell x') front y rest e) [
                | inl n ↦
                    let l = most + close_at calm t g ok d full a s in
                    closed_map calm (IsPair (λ x h. P x h f) B) (λ x h. InPair A B P Q x h f) front m m (omega arith) (in_first A B P Q f)
                    (first_closed calm (λ x h. P x h f) B w k.calms short_b front l m k.both_few
                    (keeps a k.first i (first_ends room a b V M m l u) x (ahead (spell x') h) f z y n.0 (before a b front p) a'.0 n.1))
                | inr n ↦
                    let tree : A x (ahead (spell x') h) = forget E D level_tree a V M i.is_tree x (ahead (spell x') h) f a'.0 in
                    let roomy = after a b front n.0 x n.1 (takes calm t g ok d full rank a V x (ahead (spell x') h) tree) p in
                    let inner = closes calm t g ok d full rank room most low level_closes b k.second (around_of s v V M i)
                    (tail_of room b V M m (second_ends room a b V M m u)) x' h n.0 y rest roomy a'.1 n.2 in
                    let moves : Moves calm (λ x h. P x h f) = λ x h i' al r'. places_move calm t g ok d full rank D level_move a s v k.first.good V M
                    i.move i.place_moves x h i' f al r' in
                    closed_map calm (IsPair (λ x h. P x h f) B) (λ x h. InPair A B P Q x h f) front m m (omega arith) (in_first A B P Q f)
                    (subst (λ (l : List Item). Closed calm (IsPair (λ x h. P x h f) B) l m) (sym n.1)
                    (second_closed calm (λ x h. P x h f) B moves x x' w h a'.0 k.calms short_b n.0 y rest n.2 m k.short_few inner))
              ]
          | inr b' ↦
              let more : List Item = b'.0 ++ z ∷ [] in
              let cut : front ≡ spell x ++ more = ap (λ (l : List Item). l ++ z ∷ []) b'.1 ∙ append_assoc (spell x) b'.0 (z ∷ []) in
              let at : spell x' ≡ more ++ y ∷ rest = append_cancel_left (spell x) (spell x') (more ++ y ∷ rest)
              (e ∙ ap (λ (l : List Item). l ++ y ∷ rest) cut ∙ append_assoc (spell x) more (y ∷ rest)) in
              let roomy = after a b front more x cut (takes calm t g ok d full rank a V x (ahead (spell x') h) b'.2) p in
              second_keeps calm A B P Q x x' h f b'.0 z y rest m b'.1 b'.2 at
              (keeps b k.second i (second_ends room a b V M m u) x' h b'.0 z y rest roomy b'.3 at)
        ]
    keeps (choice ks a b) {s} {v} {m} {V} {M} c i u x h f z y rest p r e =
        let k = fork_sound calm t g ok d full ks a b c in
        let u' = fork_ends room ks a b V M m u in
        let front : List Item = f ++ z ∷ [] in
        let p' = fork_roomy calm t g ok d full rank room most low level_closes ks a b front p in
        let P : Grammar → Trees = λ b x h. BeginsIn E D b V M x h f in
        elim r [
          | inl n ↦ closed_map calm (P a) (P (choice ks a b)) front m m (omega arith) (λ x h n. inl n) (keeps a k.0 i u'.0 x h f z y rest p'.0 n e)
          | inr n ↦ closed_map calm (P b) (P (choice ks a b)) front m m (omega arith) (λ x h n. inr n) (keeps b k.1 i u'.1 x h f z y rest p'.1 n e)
        ]
    keeps (greedy ks a) {s} {v} {m} {V} {M} c i u x h f z y rest p r e =
        let P : Grammar → Trees = λ b x h. BeginsIn E D b V M x h f in
        closed_map calm (P a) (P (greedy ks a)) (f ++ z ∷ []) m m (omega arith) (λ x h n. n)
        (keeps a (greedy_sound calm t g ok d full ks a c) i u x h f z y rest p r e)
    keeps (level l) {s} {v} {m} {V} {M} c i u x h f z y rest p r e =
        let few = c.few in
        let front : List Item = f ++ z ∷ [] in
        let k : 2 * length front + rank l < room = elim p [ inl q ↦ (let j = low l in omega arith) | inr q ↦ q.3 l q.1 ] in
        closed_map calm (λ x h. D l x h f) (λ x h. D l x h f) front most m (omega arith) (λ x h n. n) (level_keeps l x h f z y rest k r e)
    keeps (loop a) {s} {v} {m} {V} {M} c i u x h f z y rest p r e =
        let k = loop_sound calm t g ok d full a c in
        let w = shortest calm t g ok d full a Nothing in
        let R : ℕ → Places = λ j. in_rounds j (BeginsIn E D a (Loop E a)) in
        let moving : Moves calm (Loop E a) = part_moves calm t g ok d full rank (loop a) s v c.good V i.move in
        let whole : Closes calm (Loop E a) (Loop E a) (room_in room a) m = closes calm t g ok d full rank room most low level_closes (loop a) c
        (around_of s v V M i) (inl refl) in
        let near : (j : ℕ) → Near w true (Loop E a) (R j) = λ j. record {
          move = moving;
          shorts = λ _. loop_fits calm (brief calm t g ok d full) (has calm t g ok d full) E (has_fits calm t g ok d full) a k.calls;
          place_moves = rounds_move calm t g ok d full rank D level_move a
              (λ N c. places_move calm t g ok d full rank D level_move a w true k.round.good (Loop E a) N moving c) j;
          is_tree = rounds_tree a j;
        } in
        let once : (j : ℕ) → KeepsPlace calm (R j) (inside room) m → KeepsPlace calm (R (suc j)) (room_in room a) m =
        λ j n. keeps a k.round (near j) (inr (k.at_end, (λ x h front z rest c. whole x h front z rest (inl c)), n)) in
        closed_map calm (λ x h. R r.0 x h f) (λ x h. BeginsIn E D (loop a) V M x h f) (f ++ z ∷ []) m m (omega arith) (λ x h n. (r.0, n))
        (loop_keeps a m once r.0 x h f z y rest p r.1 e)
    keeps again {s} {v} {m} {V} {M} c i u x h f z y rest p r e = elim u [
      | inl q ↦ absurd cc
      | inr q ↦ elim p [ inl n ↦ q.2 x h f z y rest n r e | inr n ↦ absurd (let b = n.1 in cc) ]
    ]
