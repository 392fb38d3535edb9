-- Where reading comes too deep, a tree goes on with that token, and a node begins there that is nested too deep.
use Rattle.std.proofs.Common.{◌++◌, ◌∙◌, ◌∷◌, ◌≡◌, ◌⊎◌, [], ℕ, Bool, Err, List, None, Ok, Option, Some, ap, append_assoc, false, inl, inr, length, not, refl}
use Rattle.std.proofs.Common.{subst, suc, sym, true, zero}
use Rattle.std.proofs.lemmas.{Bool.and_parts, Bool.not-true, List.append-nil}
use Rattle.grammar.proofs.{Complete.shortest_fits, Complete.whole_completes, Decided.Allows, Deepest.Loop, Every.every_terminal, Hopeless.unfit_no_deep}
use Rattle.grammar.proofs.{Larger.IsPart, Larger.none_in, LevelsTested.every_level, LevelsTested.rule_sane, LevelsTested.whole_parts}
use Rattle.grammar.proofs.Bools.{both_make, by_test, either_left, either_parts, either_right, implied}
use Rattle.grammar.proofs.Complete.{brief, calls, calm_ahead, exact_at, freed_at, good, has, has_fits, loop_fits, rounds_exact_at, rule_completes, shortest}
use Rattle.grammar.proofs.Exact.{Exact, bind_err, err_is, failed, none_exact, ok_no_err, ok_or_err, token_fails}
use Rattle.grammar.proofs.Starting.{Begins, Empty, Starting, empties, level_empty_at, level_starts_at, none_begins, starting}
use Rattle.grammar.specs.{Terminals.every, Terminals.every_of, Terminals.passes, Tested.Is, Tested.Within, declared.terminals.Terminal.Terminal}
use Rattle.grammar.specs.Completing.{IsCompleted, begins_calm, spares}
use Rattle.grammar.specs.Deciding.{IsDecided, LevelTables, all_levels, both, either, expects, first, guarded, implies, none, nullable, sane}
use Rattle.grammar.specs.Grammars.{FreeIn, Grammar, IsNone, Level, again, choice, greedy, level, loop, nothing, rounds, seq, token}
use Rattle.grammar.specs.Nesting.{BeginsAt, BeginsDeep, BeginsIn, Nested, Places, Trees, in_rounds, nowhere}
use Rattle.grammar.specs.Nodes.{Item, Leaf, Node, Nothing, Pair, ahead, next, spell}
use Rattle.grammar.specs.Reaching.{IsReaching, eager, ends, goes_on, leads, level_reaches, tables_at, tail}
use Rattle.grammar.specs.Reading.{◌>>=◌, Deep, Read, Unfit, levels, read, reads, turning, turns, unfit_here, unread_of}

-- a place after one part stands in one round of a loop
at_one : (E : Level → Trees) (D : Level → Places) (g : Grammar) (V : Trees) (W : ℕ → Places) (x : Node) (h : Option Terminal) (f : List Item)
    → BeginsIn E D g V (λ x h f. (k : ℕ) × W k x h f) x h f → (k : ℕ) × BeginsIn E D g V (W k) x h f
at_one E D (token ks) V W x h f r = absurd r
at_one E D nothing V W x h f r = absurd r
at_one E D (seq a b) V W (Leaf item) h f r = absurd r
at_one E D (seq a b) V W Nothing h f r = absurd r
at_one E D (seq a b) V W (Pair x y) h f r = elim r [
  | inl s ↦ let p = at_one E D a V W x (ahead (spell y) h) f s.0 in (p.0, inl (p.1, s.1))
  | inr s ↦ let p = at_one E D b V W y h s.0 s.3 in (p.0, inr (s.0, s.1, s.2, p.1))
]
at_one E D (choice ks a b) V W x h f r = elim r [
  | inl s ↦ let p = at_one E D a V W x h f s in (p.0, inl p.1)
  | inr s ↦ let p =
      at_one E D b V W x h f s in (p.0, inr p.1)
]
at_one E D (greedy ks a) V W x h f r = at_one E D a V W x h f r
at_one E D (level l) V W x h f r = (0, r)
at_one E D (loop a) V W x h f r = (0, r)
at_one E D again V W x h f r = r

abbrev pub LoopPlaces : (Level → Trees) → (Level → Places) → Grammar → Places
LoopPlaces E D a x h f = (k : ℕ) × in_rounds k (BeginsIn E D a (Loop E a)) x h f

fold_place : (E : Level → Trees) (D : Level → Places) (a : Grammar) (x : Node) (h : Option Terminal) (f : List Item)
    → BeginsIn E D a (Loop E a) (LoopPlaces E D a) x h f → LoopPlaces E D a x h f
fold_place E D a x h f r = let p = at_one E D a (Loop E a) (λ k. in_rounds k (BeginsIn E D a (Loop E a))) x h f r in (suc p.0, p.1)

-- what a list goes on with
heads : (front : List Item) (z : Item) (rest more : List Item) (h : Option Terminal) → next (front ++ z ∷ rest) ≡ ahead (front ++ z ∷ more) h
heads [] z rest more h = refl
heads (y ∷ front) z rest more h = refl

heads_end : (front : List Item) (z : Item) (rest : List Item) → next (front ++ z ∷ rest) ≡ ahead front (Some z.kind)
heads_end [] z rest = refl
heads_end (y ∷ front) z rest = refl

-- a tree that goes on with the token, and the place in front of it
pub record Inside (calm : Terminal → Bool) (M : Places) (front : List Item) (z : Item) : Type 0 where
  pub tree : Node
  pub more : List Item
  pub begins : spell tree ≡ front ++ z ∷ more
  pub fits : (h : Option Terminal) → Allows calm h → M tree h front

-- or one that ends there, in front of the token
pub record AtEnd (M : Places) (c : Terminal → Bool) (front : List Item) (z : Item) : Type 0 where
  pub tree : Node
  pub spells : spell tree ≡ front
  pub ends : c z.kind ≡ true
  pub fits : M tree (Some z.kind) front

pub record Reached (calm : Terminal → Bool) (M : Places) (c : Terminal → Bool) (l : List Item) (z : Item) (rest : List Item) : Type 0 where
  pub front : List Item
  pub whole : l ≡ front ++ z ∷ rest
  pub made : Inside calm M front z ⊎ AtEnd M c front z

abbrev pub Reaches : (Terminal → Bool) → Places → (Terminal → Bool) → (List Item → Read) → Type 0
Reaches calm M c p = (l : List Item) (z : Item) (rest : List Item) → p l ≡ Err (Deep (z ∷ rest)) → Reached calm M c l z rest

reached_map : (calm : Terminal → Bool) (M N : Places) (c e : Terminal → Bool) → ((x : Node) (h : Option Terminal) (f : List Item) → M x h f → N x h f)
    → ((k : Terminal) → c k ≡ true → e k ≡ true)
    → (l : List Item) (z : Item) (rest : List Item) → Reached calm M c l z rest → Reached calm N e l z rest
reached_map calm M N c e m i l z rest s = record {
  front = s.front;
  whole = s.whole;
  made = elim s.made [
    | inl y ↦ inl (record { tree = y.tree; more = y.more; begins = y.begins; fits = λ h al. m y.tree h s.front (y.fits h al) })
    | inr y ↦ inr (record { tree = y.tree; spells = y.spells; ends = i z.kind y.ends; fits = m y.tree (Some z.kind) s.front y.fits })
  ];
}

same_left : (z : Item) (l rest : List Item) → failed (Deep l) ≡ Err (Deep (z ∷ rest)) → l ≡ z ∷ rest
same_left z l rest e = ap unread_of (err_is (Deep l) (Deep (z ∷ rest)) e)

module _ (calm : Terminal → Bool) (t : LevelTables) (g : Grammar) (ok : IsDecided t g ≡ true) (d : ℕ) (full : IsCompleted calm d t g ≡ true)
    (reaching : IsReaching t d g ≡ true) where
  -- ---- the parts of the check

  whole_reaches : (every_of (level_reaches t d) all_levels ≡ true) ×
      (both (eager g) (both (goes_on t g none false none) (every (λ k. not (ends t g none false none k)))) ≡ true)
  whole_reaches = and_parts (every_of (level_reaches t d) all_levels)
      (both (eager g) (both (goes_on t g none false none) (every (λ k. not (ends t g none false none k))))) reaching

  record LevelReaches (l : Level) : Type 0 where
    pub starts : (k : Terminal) → t.first_of l k ≡ true → (tables_at t d).first_of l k ≡ true
    pub empty : t.nullable_of l ≡ true → (tables_at t d).nullable_of l ≡ true
    pub prompt : eager (t.rule l) ≡ true
    pub follows : goes_on t (t.rule l) none false none ≡ true
    pub closes : (k : Terminal) → ends t (t.rule l) none false none k ≡ true → both (t.nullable_of l) (t.follow_of l k) ≡ true

  level_parts : (l : Level) → LevelReaches l
  level_parts l =
      let firsts : Terminal → Bool = λ k. implies (t.first_of l k) ((tables_at t d).first_of l k) in
      let lasts : Terminal → Bool = λ k. implies (ends t (t.rule l) none false none k) (both (t.nullable_of l) (t.follow_of l k)) in
      let a = and_parts (both (every firsts) (implies (t.nullable_of l) ((tables_at t d).nullable_of l)))
      (both (eager (t.rule l)) (both (goes_on t (t.rule l) none false none) (every lasts))) (every_level (level_reaches t d) whole_reaches.0 l) in
      let b = and_parts (every firsts) (implies (t.nullable_of l) ((tables_at t d).nullable_of l)) a.0 in
      let c = and_parts (eager (t.rule l)) (both (goes_on t (t.rule l) none false none) (every lasts)) a.1 in
      let e = and_parts (goes_on t (t.rule l) none false none) (every lasts) c.1 in
      record {
        starts = λ k i. implied (t.first_of l k) ((tables_at t d).first_of l k) (every_terminal firsts b.0 k) i;
        empty = λ i. implied (t.nullable_of l) ((tables_at t d).nullable_of l) b.1 i;
        prompt = c.0;
        follows = e.0;
        closes = λ k i. implied (ends t (t.rule l) none false none k) (both (t.nullable_of l) (t.follow_of l k)) (every_terminal lasts e.1 k) i;
      }

  abbrev E : Level → Trees
  E = Nested t.rule

  eager_rule : (l : Level) → eager (t.rule l) ≡ true
  eager_rule l = (level_parts l).prompt

  level_starts : (l : Level) (z : Item) → t.first_of l z.kind ≡ true → Starting calm (E l) z
  level_starts l z e = level_starts_at calm t g ok d full eager_rule d l z ((level_parts l).starts z.kind e)

  level_empty : (l : Level) → t.nullable_of l ≡ true → (h : Option Terminal) → Empty (E l) h
  level_empty l e h = level_empty_at calm t g ok d full d l ((level_parts l).empty e) h

  starts_of : (b : Grammar) (f : Terminal → Bool) (v : Bool) (s : Node) (e : Bool) → eager b ≡ true → good calm t g ok d full b s e ≡ true → (V : Trees)
      → Begins calm t g ok d full f v s e V
      → (z : Item) → first t b f v z.kind ≡ true → Starting calm (FreeIn E b V) z
  starts_of = starting calm t g ok d full t level_starts level_empty

  empties_of : (b : Grammar) (f : Terminal → Bool) (v : Bool) → eager b ≡ true → (V : Trees) (k : Terminal) → (f k ≡ false → v ≡ true → Empty V (Some k))
      → first t b f v k ≡ false → nullable t b v ≡ true → Empty (FreeIn E b V) (Some k)
  empties_of = empties t E level_empty

  abbrev good_at : Grammar → Node → Bool → Bool
  good_at = good calm t g ok d full

  abbrev calls_at : Grammar → Node → Bool → Bool
  calls_at = calls calm t g ok d full

  abbrev short_at : Grammar → Node → Node
  short_at = shortest calm t g ok d full

  -- what is known of the loop around
  record Near (n : ℕ) (f : Terminal → Bool) (v : Bool) (c : Terminal → Bool) (s : Node) (e : Bool) (V W : Trees) (M : Places)
      (u : List Item → Read) : Type 0 where
    pub exact : Exact W u
    pub part : IsPart W V
    pub begins : Begins calm t g ok d full f v s e V
    pub reaches : Reaches calm M c u

  -- ---- one part after the other

  module _ (n : ℕ) (f : Terminal → Bool) (v : Bool) (c : Terminal → Bool) (s : Node) (e : Bool) (V : Trees) (M : Places)
      (i : Begins calm t g ok d full f v s e V) where
    abbrev A : Grammar → Trees
    A b = FreeIn E b V

    abbrev B : Grammar → Places
    B b = BeginsIn E (BeginsAt t.rule n) b V M

    -- in the first part
    first_reached : (a b : Grammar) → eager b ≡ true → good_at b s e ≡ true → calls_at b s e ≡ true → begins_calm calm (spell (short_at b s)) ≡ true
        → ((k : Terminal) → ends t a f v c k ≡ true → either (first t b f v k) (nullable t b v) ≡ true)
        → (l : List Item) (z : Item) (rest : List Item) → Reached calm (B a) (ends t a f v c) l z rest
        → Reached calm (B (seq a b)) (ends t (seq a b) f v c) l z rest
    first_reached a b o q k r m l z rest y = record { front = y.front; whole = y.whole; made = elim y.made [ inl x ↦ inl (goes_in x) | inr x ↦ goes_out x ] }
      where
        goes_in : Inside calm (B a) y.front z → Inside calm (B (seq a b)) y.front z
        goes_in x =
            let w = short_at b s in
            record {
              tree = Pair x.tree w;
              more = x.more ++ spell w;
              begins = ap (λ (l : List Item). l ++ spell w) x.begins ∙ append_assoc y.front (z ∷ x.more) (spell w);
              fits = λ h al. inl (x.fits (ahead (spell w) h) (calm_ahead calm (spell w) h r al), shortest_fits calm t g ok d full b s e k V i.shorts h al);
            }

        goes_out : AtEnd (B a) (ends t a f v c) y.front z → Inside calm (B (seq a b)) y.front z ⊎ AtEnd (B (seq a b)) (ends t (seq a b) f v c) y.front z
        goes_out x = elim (by_test (first t b f v z.kind)) [
          | inl j ↦
              let w = starts_of b f v s e o q V i z j in
              inl (record {
                tree = Pair x.tree w.tree;
                more = w.more;
                begins = ap (λ (l : List Item). l ++ spell w.tree) x.spells ∙ ap (λ (l : List Item). y.front ++ l) w.begins;
                fits = λ h al. inl (
                  subst (λ (k : Option Terminal). B a x.tree k y.front) (sym (ap (λ (l : List Item). ahead l h) w.begins)) x.fits,
                  w.fits h al,
                );
              })
          | inr j ↦
              let gap : nullable t b v ≡ true = elim (either_parts (first t b f v z.kind) (nullable t b v) (m z.kind x.ends))
              [ inl p ↦ absurd (let q : true ≡ false = sym p ∙ j in cc) | inr p ↦ p ] in
              let w = empties_of b f v o V z.kind (i.empty z.kind) j gap in
              let not_first : not (first t b f v z.kind) ≡ true = ap not j in
              inr (record {
                tree = Pair x.tree w.tree;
                spells = ap (λ (l : List Item). spell x.tree ++ l) w.spells ∙ append-nil (spell x.tree) ∙ x.spells;
                ends = either_right (ends t b f v c z.kind) (both (ends t a f v c z.kind) (both (nullable t b v) (not (first t b f v z.kind))))
                    (both_make (ends t a f v c z.kind) (both (nullable t b v) (not (first t b f v z.kind))) x.ends
                    (both_make (nullable t b v) (not (first t b f v z.kind)) gap not_first));
                fits = inl (
                  subst (λ (k : Option Terminal). B a x.tree k y.front) (sym (ap (λ (l : List Item). ahead l (Some z.kind)) w.spells)) x.fits,
                  w.fits,
                );
              })
        ]

    -- in the second part
    second_reached : (a b : Grammar) (x : Node) (l m : List Item) → l ≡ spell x ++ m → A a x (next m) → (z : Item) (rest : List Item)
        → Reached calm (B b) (ends t b f v c) m z rest → Reached calm (B (seq a b)) (ends t (seq a b) f v c) l z rest
    second_reached a b x l m whole fits z rest y = record {
      front = spell x ++ y.front;
      whole = whole ∙ ap (λ (w : List Item). spell x ++ w) y.whole ∙ sym (append_assoc (spell x) y.front (z ∷ rest));
      made = elim y.made [
        | inl j ↦ inl (record {
          tree = Pair x j.tree;
          more = j.more;
          begins = ap (λ (w : List Item). spell x ++ w) j.begins ∙ sym (append_assoc (spell x) y.front (z ∷ j.more));
          fits = λ h al. inr (
            y.front,
            refl,
            subst (A a x) (ap next y.whole ∙ heads y.front z rest j.more h ∙ sym (ap (λ (w : List Item). ahead w h) j.begins))
                fits,
            j.fits h al,
          );
        })
        | inr j ↦ inr (record {
          tree = Pair x j.tree;
          spells = ap (λ (w : List Item). spell x ++ w) j.spells;
          ends = either_left (ends t b f v c z.kind) (both (ends t a f v c z.kind) (both (nullable t b v) (not (first t b f v z.kind)))) j.ends;
          fits = inr (
            y.front,
            refl,
            subst (A a x) (ap next y.whole ∙ heads_end y.front z rest ∙ sym (ap (λ (w : List Item). ahead w (Some z.kind)) j.spells))
                fits,
            j.fits,
          );
        })
      ];
    }

  module _ (n : ℕ) (level_reached : (l : Level) → Reaches calm (BeginsAt t.rule n l) (λ k. both (t.nullable_of l) (t.follow_of l k)) (levels t n l)) where
    abbrev D : Level → Places
    D = BeginsAt t.rule n

    abbrev p : Level → List Item → Read
    p = levels t n

    turns_reached : (a : Grammar) → every (λ k. implies (ends t a (first t a none false) (nullable t a false) (tail t a) k) (tail t a k)) ≡ true
        → ((k : ℕ) → Reaches calm (LoopPlaces E D a) (tail t a) (turns k (reads p a))
        → Reaches calm (BeginsIn E D a (Loop E a) (LoopPlaces E D a)) (ends t a (first t a none false) (nullable t a false) (tail t a))
        (reads p a (turns k (reads p a))))
        → (k : ℕ) → Reaches calm (LoopPlaces E D a) (tail t a) (turns k (reads p a))
    turns_reached a m c zero l z rest e = absurd (unfit_no_deep l (z ∷ rest) e)
    turns_reached a m c (suc k) l z rest e =
        let inner = ends t a (first t a none false) (nullable t a false) (tail t a) in
        reached_map calm (BeginsIn E D a (Loop E a) (LoopPlaces E D a)) (LoopPlaces E D a) inner (tail t a) (fold_place E D a)
        (λ j. implied (inner j) (tail t a j) (every_terminal (λ k. implies (inner k) (tail t a k)) m j)) l z rest
        (c k (turns_reached a m c k) l z rest e)

    reached : (b : Grammar) (f : Terminal → Bool) (v : Bool) (c : Terminal → Bool) (s : Node) (e : Bool) → sane b ≡ true → eager b ≡ true → good_at b s e ≡ true
        → goes_on t b f v c ≡ true
        → (V W : Trees) (M : Places) (u : List Item → Read) → Near n f v c s e V W M u → Reaches calm (BeginsIn E D b V M) (ends t b f v c) (reads p b u)
    unfolding turning
    reached (token ks) f v c s e o j q m V W M u i l z rest h = absurd (unfit_no_deep l (z ∷ rest) (token_fails ks l (Deep (z ∷ rest)) h).0)
    reached nothing f v c s e o j q m V W M u i l z rest h = absurd (ok_no_err (Nothing, l) (Deep (z ∷ rest)) h)
    reached (seq a b) f v c s e o j q m V W M u i l z rest h =
        let o' = and_parts (sane a) (sane b) o in
        let j' = and_parts (eager a) (eager b) j in
        let q' = and_parts (both (good_at a s e) (good_at b s e)) (both (calls_at b s e) (begins_calm calm (spell (short_at b s)))) q in
        let q2 = and_parts (good_at a s e) (good_at b s e) q'.0 in
        let q3 = and_parts (calls_at b s e) (begins_calm calm (spell (short_at b s))) q'.1 in
        let on : Terminal → Bool = λ k. implies (ends t a f v c k) (either (first t b f v k) (nullable t b v)) in
        let m' = and_parts (both (goes_on t a f v c) (goes_on t b f v c)) (every on) m in
        let m2 = and_parts (goes_on t a f v c) (goes_on t b f v c) m'.0 in
        elim (bind_err (reads p a u l) (λ x. reads p b u x.1 >>= λ y. Ok (Pair x.0 y.0, y.1)) (Deep (z ∷ rest)) h) [
          | inl x ↦
              first_reached n f v c s e V M i.begins a b j'.1 q2.1 q3.0 q3.1
              (λ k y. implied (ends t a f v c k) (either (first t b f v k) (nullable t b v)) (every_terminal on m'.1 k) y) l z rest
              (reached a f v c s e o'.0 j'.0 q2.0 m2.0 V W M u i l z rest x)
          | inr x ↦
              elim (bind_err (reads p b u x.0.1) (λ y. Ok (Pair x.0.0 y.0, y.1)) (Deep (z ∷ rest)) x.2) [
                | inl y ↦
                    let w = (exact_at calm t g ok d full n a o'.0 W u i.exact).sound l x.0.0 x.0.1 x.1 in
                    second_reached n f v c s e V M i.begins a b x.0.0 l x.0.1 w.0 (freed_at calm t g ok d full n a V W i.part x.0.0 (next x.0.1) w.1) z rest
                    (reached b f v c s e o'.1 j'.1 q2.1 m2.1 V W M u i x.0.1 z rest y)
                | inr y ↦ absurd (ok_no_err (Pair x.0.0 y.0.0, y.0.1) (Deep (z ∷ rest)) y.2)
              ]
        ]
    reached (choice ks a b) f v c s e o j q m V W M u i l z rest h =
        let o' = and_parts (sane a) (sane b) o in
        let j' = and_parts (eager a) (eager b) j in
        let q' = and_parts (good_at a s e) (good_at b s e) q in
        let m' = and_parts (goes_on t a f v c) (goes_on t b f v c) m in
        elim (ok_or_err (passes ks (next l)) (reads p a u l) (reads p b u l) (Err (Deep (z ∷ rest))) h) [
          | inl x ↦
              reached_map calm (BeginsIn E D a V M) (BeginsIn E D (choice ks a b) V M) (ends t a f v c) (ends t (choice ks a b) f v c) (λ x h f y. inl y)
              (λ k y. either_left (ends t a f v c k) (ends t b f v c k) y) l z rest
              (reached a f v c s e o'.0 j'.0 q'.0 m'.0 V W M u i l z rest x.1)
          | inr x ↦
              reached_map calm (BeginsIn E D b V M) (BeginsIn E D (choice ks a b) V M) (ends t b f v c) (ends t (choice ks a b) f v c) (λ x h f y. inr y)
              (λ k y. either_right (ends t a f v c k) (ends t b f v c k) y) l z rest
              (reached b f v c s e o'.1 j'.1 q'.1 m'.1 V W M u i l z rest x.1)
        ]
    reached (greedy ks a) f v c s e o j q m V W M u i l z rest h =
        let j' = and_parts (eager a) (leads ks a) j in
        let q' = and_parts (good_at a s e) (spares calm ks) q in
        elim (ok_or_err (passes ks (next l)) (reads p a u l) (Ok (Nothing, l)) (Err (Deep (z ∷ rest))) h) [
          | inl x ↦
              reached_map calm (BeginsIn E D a V M) (BeginsIn E D (greedy ks a) V M) (ends t a f v c) (ends t (greedy ks a) f v c) (λ x h f y. y)
              (λ k y. y) l z rest (reached a f v c s e o j'.0 q'.0 m V W M u i l z rest x.1)
          | inr x ↦ absurd (ok_no_err (Nothing, l) (Deep (z ∷ rest)) x.1)
        ]
    reached (level w) f v c s e o j q m V W M u i l z rest h = level_reached w l z rest h
    reached (loop a) f v c s e o j q m V W M u i l z rest h =
        let o' = and_parts (sane a) (guarded a) o in
        let w = short_at a Nothing in
        let q' = and_parts (good_at a w true) (calls_at a Nothing false) q in
        let F = first t a none false in
        let G = nullable t a false in
        let m' = and_parts (goes_on t a F G (tail t a)) (every (λ k. implies (ends t a F G (tail t a) k) (tail t a k))) m in
        let around : Begins calm t g ok d full F G w true (Loop E a) = record {
          shorts = λ y. loop_fits calm (brief calm t g ok d full) (has calm t g ok d full) E (has_fits calm t g ok d full) a q'.1;
          starts = λ z y. starts_of (loop a) f v s e j q V i.begins z y;
          empty = λ k y x. empties_of (loop a) f v j V k (i.begins.empty k) y x;
        } in
        turns_reached a m'.1
        (λ k r. reached a F G (tail t a) w true o'.0 j q'.0 m'.0 (Loop E a) (rounds k (Is (Within t.rule n) a)) (LoopPlaces E D a) (turns k (reads p a))
        (record {
          exact = rounds_exact_at calm t g ok d full n a o k;
          part = λ x h y. freed_at calm t g ok d full n (loop a) IsNone IsNone (none_in IsNone) x h (k, y);
          begins = around;
          reaches = r;
        })) (suc (length l)) l z rest h
    reached again f v c s e o j q m V W M u i l z rest h = i.reaches l z rest h

  none_near : (n : ℕ) → Near n none false none Nothing false IsNone IsNone nowhere unfit_here
  none_near n = record {
    exact = none_exact;
    part = λ x h r. r;
    begins = none_begins calm t g ok d full;
    reaches = λ l z rest e. absurd (unfit_no_deep l (z ∷ rest) e);
  }

  level_reached : (n : ℕ) (l : Level) → Reaches calm (BeginsAt t.rule n l) (λ k. both (t.nullable_of l) (t.follow_of l k)) (levels t n l)
  unfolding levels BeginsAt
  level_reached zero l items z rest e =
      elim (ok_or_err (expects t l (next items)) (Err (Deep items)) (Err (Unfit items)) (Err (Deep (z ∷ rest))) e) [
        | inl y ↦
            let is : items ≡ z ∷ rest = same_left z items rest y.1 in
            let there : either (t.first_of l z.kind) (both (t.nullable_of l) (t.follow_of l z.kind)) ≡ true =
            subst (λ (w : List Item). expects t l (next w) ≡ true) is y.0 in
            elim (either_parts (t.first_of l z.kind) (both (t.nullable_of l) (t.follow_of l z.kind)) there) [
              | inl k ↦
                  let s = level_starts l z k in
                  record { front = []; whole = is; made = inl (record { tree = s.tree; more = s.more; begins = s.begins; fits = λ h c. (refl, s.fits h c) }) }
              | inr k ↦
                  let s = level_empty l (and_parts (t.nullable_of l) (t.follow_of l z.kind) k).0 (Some z.kind) in
                  record { front = []; whole = is; made = inr (record { tree = s.tree; spells = s.spells; ends = k; fits = (refl, s.fits) }) }
            ]
        | inr y ↦ absurd (unfit_no_deep items (z ∷ rest) y.1)
      ]
  level_reached (suc n) l items z rest e =
      reached_map calm (BeginsIn E (BeginsAt t.rule n) (t.rule l) IsNone nowhere) (BeginsAt t.rule (suc n) l) (ends t (t.rule l) none false none)
      (λ k. both (t.nullable_of l) (t.follow_of l k)) (λ x h f y. y) (level_parts l).closes items z rest
      (reached n (level_reached n) (t.rule l) none false none Nothing false (rule_sane t g ok l) (eager_rule l) (rule_completes calm t g ok d full l)
      (level_parts l).follows IsNone IsNone nowhere unfit_here (none_near n) items z rest e)

  -- Where reading comes too deep at a token, a tree goes on with it, and a node begins there that is nested too deep.
  pub whole_reached : (n : ℕ) (l : List Item) (z : Item) (rest : List Item) → read t n g l ≡ Err (Deep (z ∷ rest))
      → (front : List Item) × (l ≡ front ++ z ∷ rest) × (x : Node) × (more : List Item) × (spell x ≡ front ++ z ∷ more) × BeginsDeep t n g x front
  unfolding read
  whole_reached n l z rest e =
      let a = and_parts (eager g) (both (goes_on t g none false none) (every (λ k. not (ends t g none false none k)))) whole_reaches.1 in
      let b = and_parts (goes_on t g none false none) (every (λ k. not (ends t g none false none k))) a.1 in
      let s = reached n (level_reached n) g none false none Nothing false (whole_parts t g ok).sound a.0
      (whole_completes calm t g ok d full) b.0 IsNone IsNone nowhere unfit_here (none_near n) l z rest e in
      elim s.made [
        | inl y ↦ (s.front, s.whole, y.tree, y.more, y.begins, y.fits None tt)
        | inr y ↦ absurd (let f : ends t g none false none z.kind ≡ false =
            not-true (ends t g none false none z.kind) (every_terminal (λ k. not (ends t g none false none k)) b.1 z.kind) in let h = y.ends in cc)
      ]
