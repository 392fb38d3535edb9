-- Whatever is open where a tree breaks off is closed by few tokens: at most this many for each level that is open, and of
-- these at most two begin before a token.
use Rattle.std.proofs.Common.{◌*◌, ◌++◌, ◌+◌, ◌<◌, ◌∙◌, ◌≡◌, ◌≤◌, ◌⊎◌, ℕ, Bool, List, Option, ap, arith, inl, inr, length, length-append, subst, suc, sym, true}
use Rattle.std.proofs.{Common.zero, lemmas.Bool.and_parts}
use Rattle.grammar.proofs.{Bools.either_parts, Deepest.Loop, Deepest.fold, Larger.IsPart, Larger.all_in, Larger.free_up}
use Rattle.grammar.proofs.Complete.{Fits, Moves, brief, good, has, has_fits, level_moves, loop_fits, moves, shortest, shortest_fits}
use Rattle.grammar.specs.{Completing.IsCompleted, Nesting.Nested, Nesting.Trees, declared.terminals.Terminal.Terminal}
use Rattle.grammar.specs.Deciding.{IsDecided, LevelTables, closed, either, linear, solid}
use Rattle.grammar.specs.Grammars.{FreeIn, Grammar, Level, again, choice, greedy, level, loop, nothing, rounds, seq, token}
use Rattle.grammar.specs.Nodes.{Item, Leaf, Node, Nothing, Pair, ahead, spell}
use Rattle.pas_tree.proofs.{Repeated.spells, ShapedIsGrammatical.loosened}
use Rattle.pas_tree.proofs.Parting.{Closed, Closes, begun_by, broken_in, closed_map, first_closed, nothing_breaks, second_closed, token_closes}
use Rattle.pas_tree.proofs.SoundParts.{Sound, close_at, fork_sound, greedy_sound, loop_sound, pair_sound}

module _ (calm : Terminal → Bool) (t : LevelTables) (g : Grammar) (ok : IsDecided t g ≡ true) (d : ℕ) (full : IsCompleted calm d t g ≡ true)
    (rank : Level → ℕ) where
  abbrev E : Level → Trees
  E = Nested t.rule

  abbrev brief_at : Level → Node
  brief_at = brief calm t g ok d full

  -- a tree stays one in front of each calm terminal
  pub part_moves : (b : Grammar) (s : Node) (v : Bool) → good calm t g ok d full b s v ≡ true → (V : Trees) → Moves calm V → Moves calm (FreeIn E b V)
  part_moves = moves calm brief_at (has calm t g ok d full) E (level_moves calm t g ok d full)

  -- a tree of what is solid takes a token
  pub takes : (b : Grammar) (V : Trees) (x : Node) (h : Option Terminal) → FreeIn E b V x h → solid b ≡ true → 0 < length (spell x)
  takes b V x h r e = spells E b e V x h (loosened E E (λ l x h r. r) b V V (all_in V) x h r)

  -- Of a level with this many tokens up to the break, twice these and its rank are below the room: at any rank.
  abbrev pub Inner : ℕ → List Item → Type 0
  Inner room front = 2 * length front + 1 < room

  -- the same of the levels with which a part may begin, and, after a token of it, of each other
  abbrev pub Roomy : ℕ → Grammar → List Item → Type 0
  Roomy room b front = Inner room front ⊎ ((early : Level → Bool) × (begun_by early b ≡ true) × (2 * length front ≤ room) ×
      ((l : Level) → early l ≡ true → 2 * length front + rank l < room))

  -- what is known of the loop around
  pub record Around (s : Node) (v : Bool) (V W : Trees) : Type 0 where
    pub part : IsPart W V
    pub move : Moves calm V
    pub shorts : v ≡ true → Fits calm V s

  -- the loop around goes on at the end alone, and what it goes on with is closed
  abbrev pub Tail : ℕ → Grammar → Trees → Trees → ℕ → Type 0
  Tail room b V W most = (closed b ≡ true) ⊎ ((linear b ≡ true) × Closes calm W V (Inner room) most)

  module _ (room most : ℕ) (low : (l : Level) → rank l ≤ 1)
      (level_closes : (l : Level) → Closes calm (E l) (E l) (λ front. 2 * length front + rank l < room) most) where
    first_tail : (a b : Grammar) (V W : Trees) (m n : ℕ) → Tail room (seq a b) V W m → Tail room a V W n
    first_tail a b V W m n r = elim r [ inl c ↦ inl (and_parts (closed a) (closed b) c).0 | inr c ↦ inl (and_parts (closed a) (linear b) c.0).0 ]

    second_tail : (a b : Grammar) (V W : Trees) (m : ℕ) → Tail room (seq a b) V W m → Tail room b V W m
    second_tail a b V W m r = elim r
        [ inl c ↦ inl (and_parts (closed a) (closed b) c).1 | inr c ↦ inr ((and_parts (closed a) (linear b) c.0).1, c.1) ]

    fork_tail : (ks : List Terminal) (a b : Grammar) (V W : Trees) (m : ℕ) → Tail room (choice ks a b) V W m → Tail room a V W m × Tail room b V W m
    fork_tail ks a b V W m r = elim r [
      | inl c ↦ let p = and_parts (closed a) (closed b) c in (inl p.0, inl p.1)
      | inr c ↦ let p = and_parts (linear a) (linear b) c.0 in (inr (p.0, c.1), inr (p.1, c.1))
    ]

    pub first_roomy : (a b : Grammar) (front : List Item) → Roomy room (seq a b) front → Roomy room a front
    first_roomy a b front r = elim r
        [ inl c ↦ inl c | inr c ↦ inr (c.0, (and_parts (begun_by c.0 a) (either (solid a) (begun_by c.0 b)) c.1).0, c.2, c.3) ]

    pub second_roomy : (a b : Grammar) (front f : List Item) (x : Node) → front ≡ spell x ++ f → (solid a ≡ true → 0 < length (spell x))
        → Roomy room (seq a b) front → Roomy room b f
    second_roomy a b front f x e some r =
        let len : length front ≡ length (spell x) + length f = ap length e ∙ length-append (spell x) f in
        elim r [
          | inl c ↦ inl (omega arith)
          | inr c ↦ elim (either_parts (solid a) (begun_by c.0 b) (and_parts (begun_by c.0 a) (either (solid a) (begun_by c.0 b)) c.1).1) [
            | inl s ↦ inl (let k = some s in let m = c.2 in omega arith)
            | inr s ↦ inr (c.0, s, (let m = c.2 in omega arith), λ l y. let m = c.3 l y in omega arith)
          ]
        ]

    pub fork_roomy : (ks : List Terminal) (a b : Grammar) (front : List Item) → Roomy room (choice ks a b) front → Roomy room a front × Roomy room b front
    fork_roomy ks a b front r = elim r [
      | inl c ↦ (inl c, inl c)
      | inr c ↦ let p = and_parts (begun_by c.0 a) (begun_by c.0 b) c.1 in (inr (c.0, p.0, c.2, c.3), inr (c.0, p.1, c.2, c.3))
    ]

    rounds_close : (a : Grammar) (m : ℕ)
        → ((k : ℕ) → Closes calm (rounds k (FreeIn E a)) (Loop E a) (Inner room) m
        → Closes calm (FreeIn E a (rounds k (FreeIn E a))) (FreeIn E a (Loop E a)) (Roomy room a) m)
        → (k : ℕ) → Closes calm (rounds k (FreeIn E a)) (Loop E a) (Inner room) m
    rounds_close a m c zero x h front z rest p r e = absurd r
    rounds_close a m c (suc k) x h front z rest p r e = closed_map calm (FreeIn E a (Loop E a)) (Loop E a) front m m (omega arith) (fold E a)
        (c k (rounds_close a m c k) x h front z rest (inl p) r e)

    -- the first round begins where the loop does
    loop_closed : (a : Grammar) (m : ℕ)
        → ((k : ℕ) → Closes calm (rounds k (FreeIn E a)) (Loop E a) (Inner room) m
        → Closes calm (FreeIn E a (rounds k (FreeIn E a))) (FreeIn E a (Loop E a)) (Roomy room a) m)
        → (k : ℕ) → Closes calm (rounds k (FreeIn E a)) (Loop E a) (Roomy room a) m
    loop_closed a m c zero x h front z rest p r e = absurd r
    loop_closed a m c (suc k) x h front z rest p r e = closed_map calm (FreeIn E a (Loop E a)) (Loop E a) front m m (omega arith) (fold E a)
        (c k (rounds_close a m c k) x h front z rest p r e)

    pub closes : (b : Grammar) {s : Node} {v : Bool} {m : ℕ} {V W : Trees} → Sound calm t g ok d full most b s v m → Around s v V W → Tail room b V W m
        → Closes calm (FreeIn E b W) (FreeIn E b V) (Roomy room b) m
    closes (token ks) {s} {v} {m} {V} {W} c i u x h front z rest p r e =
        let few = c.few in
        token_closes calm ks c.good m (omega arith) (Roomy room (token ks)) x h front z rest p r e
    closes nothing {s} {v} {m} {V} {W} c i u x h front z rest p r e = absurd (nothing_breaks calm x front z rest r e)
    closes (seq a b) {s} {v} {m} {V} {W} c i u (Leaf item) h front z rest p r e = absurd r
    closes (seq a b) {s} {v} {m} {V} {W} c i u Nothing h front z rest p r e = absurd r
    closes (seq a b) {s} {v} {m} {V} {W} c i u (Pair x y) h front z rest p r e =
        let k = pair_sound calm t g ok d full a b c in
        let A = FreeIn E a V in
        let B = FreeIn E b V in
        let w = shortest calm t g ok d full b s in
        let n = most + close_at calm t g ok d full a s in
        let short_b : Fits calm B w = shortest_fits calm t g ok d full b s v k.calls V i.shorts in
        elim (broken_in (spell x) (spell y) front z rest e) [
          | inl f ↦ first_closed calm A B w k.calms short_b front n m k.both_few
              (closes a k.first i (first_tail a b V W m n u) x (ahead (spell y) h) front z f.0 (first_roomy a b front p) r.0 f.1)
          | inr f ↦
              let wide = free_up E E (λ l x h r. r) a W V i.part x (ahead (spell y) h) r.0 in
              let roomy = second_roomy a b front f.0 x f.1 (takes a W x (ahead (spell y) h) r.0) p in
              let inner = closes b k.second i (second_tail a b V W m u) y h f.0 z rest roomy r.1 f.2 in
              subst (λ (l : List Item). Closed calm (FreeIn E (seq a b) V) l m) (sym f.1)
              (second_closed calm A B (part_moves a s v k.first.good V i.move) x y w h wide k.calms short_b f.0 z rest f.2 m k.short_few inner)
        ]
    closes (choice ks a b) {s} {v} {m} {V} {W} c i u x h front z rest p r e =
        let k = fork_sound calm t g ok d full ks a b c in
        let u' = fork_tail ks a b V W m u in
        let p' = fork_roomy ks a b front p in
        let F = FreeIn E (choice ks a b) V in
        elim r [
          | inl y ↦ closed_map calm (FreeIn E a V) F front m m (omega arith) (λ x h y. inl y) (closes a k.0 i u'.0 x h front z rest p'.0 y e)
          | inr y ↦ closed_map calm (FreeIn E b V) F front m m (omega arith) (λ x h y. inr y) (closes b k.1 i u'.1 x h front z rest p'.1 y e)
        ]
    closes (greedy ks a) {s} {v} {m} {V} {W} c i u x h front z rest p r e = elim r [
      | inl y ↦ closed_map calm (FreeIn E a V) (FreeIn E (greedy ks a) V) front m m (omega arith) (λ x h y. inl y)
          (closes a (greedy_sound calm t g ok d full ks a c) i u x h front z rest p y e)
      | inr y ↦ absurd (nothing_breaks calm x front z rest y.0 e)
    ]
    closes (level l) {s} {v} {m} {V} {W} c i u x h front z rest p r e =
        let few = c.few in
        let k : 2 * length front + rank l < room = elim p [ inl q ↦ (let j = low l in omega arith) | inr q ↦ q.3 l q.1 ] in
        closed_map calm (E l) (E l) front most m (omega arith) (all_in (E l)) (level_closes l x h front z rest k r e)
    closes (loop a) {s} {v} {m} {V} {W} c i u x h front z rest p r e =
        let k = loop_sound calm t g ok d full a c in
        let around : (j : ℕ) → Around (shortest calm t g ok d full a Nothing) true (Loop E a) (rounds j (FreeIn E a)) = λ j. record {
          part = λ x h y. (j, y);
          move = part_moves (loop a) s v c.good V i.move;
          shorts = λ y. loop_fits calm brief_at (has calm t g ok d full) E (has_fits calm t g ok d full) a k.calls;
        } in
        let once : (j : ℕ) → Closes calm (rounds j (FreeIn E a)) (Loop E a) (Inner room) m
        → Closes calm (FreeIn E a (rounds j (FreeIn E a))) (FreeIn E a (Loop E a)) (Roomy room a) m = λ j n. closes a k.round (around j) (inr (k.at_end, n)) in
        loop_closed a m once r.0 x h front z rest p r.1 e
    closes again {s} {v} {m} {V} {W} c i u x h front z rest p r e = elim u [
      | inl q ↦ absurd cc
      | inr q ↦ elim p [ inl y ↦ q.1 x h front z rest y r e | inr y ↦ absurd (let f = y.1 in cc) ]
    ]
