-- Where one token decides each choice, the trees of a grammar are those to which the tests lead.
use Rattle.std.proofs.Common.{◌++◌, ◌∷◌, ◌≡◌, [], ℕ, Bool, List, None, Option, Some, false, inl, inr, not, refl, subst, suc, sym, true, zero}
use Rattle.std.proofs.lemmas.Bool.{and_parts, not-true}
use Rattle.grammar.proofs.{Bools.both_make, Bools.either_left, Bools.either_right, Bools.implied, Every.every_terminal, Larger.IsPart}
use Rattle.grammar.specs.{Terminals.every, Terminals.one_of, Terminals.passes, Tested.Is, declared.terminals.Terminal.Terminal}
use Rattle.grammar.specs.Deciding.{LevelTables, both, decides, either, first, implies, none, nullable}
use Rattle.grammar.specs.Grammars.{FreeIn, Grammar, IsNone, IsNothing, Level, again, choice, greedy, level, loop, nothing, rounds, seq, token}
use Rattle.grammar.specs.Nodes.{Item, Leaf, Node, Nothing, Pair, ahead, spell}

-- what may follow: a terminal that passes, or the end
abbrev pub Allows : (Terminal → Bool) → Option Terminal → Type 0
Allows f None = Unit {0}
Allows f (Some k) = f k ≡ true

-- a tree begins with what may begin it, or is empty
abbrev pub Starts : (Terminal → Bool) → Bool → List Item → Type 0
Starts f empty [] = empty ≡ true
Starts f empty (x ∷ l) = f x.kind ≡ true

abbrev pub Begun : (Terminal → Bool) → Bool → (Node → Option Terminal → Type 0) → Type 0
Begun f empty P = (x : Node) (h : Option Terminal) → P x h → Starts f empty (spell x)

starts_append : (f g : Terminal → Bool) (a b : Bool) (l m : List Item) → Starts f a l → Starts g b m
    → Starts (λ k. either (f k) (both a (g k))) (both a b) (l ++ m)
starts_append f g a b [] [] s t = both_make a b s t
starts_append f g a b [] (y ∷ m) s t = either_right (f y.kind) (both a (g y.kind)) (both_make a (g y.kind) s t)
starts_append f g a b (x ∷ l) m s t = either_left (f x.kind) (both a (g x.kind)) s

starts_left : (f g : Terminal → Bool) (a b : Bool) (l : List Item) → Starts f a l → Starts (λ k. either (f k) (g k)) (either a b) l
starts_left f g a b [] s = either_left a b s
starts_left f g a b (x ∷ l) s = either_left (f x.kind) (g x.kind) s

starts_right : (f g : Terminal → Bool) (a b : Bool) (l : List Item) → Starts g b l → Starts (λ k. either (f k) (g k)) (either a b) l
starts_right f g a b [] s = either_right a b s
starts_right f g a b (x ∷ l) s = either_right (f x.kind) (g x.kind) s

starts_nullable : (f : Terminal → Bool) (a : Bool) (l : List Item) → Starts f a l → Starts f true l
starts_nullable f a [] s = refl
starts_nullable f a (x ∷ l) s = s

pub solid_starts : (f : Terminal → Bool) (a : Bool) (l : List Item) → a ≡ false → Starts f a l → Starts f false l
solid_starts f a l e s = subst (λ (b : Bool). Starts f b l) e s

-- larger tables
pub starts_up : (f g : Terminal → Bool) (a b : Bool) (l : List Item) → every (λ k. implies (f k) (g k)) ≡ true → implies a b ≡ true → Starts f a l
    → Starts g b l
starts_up f g a b [] e i s = implied a b i s
starts_up f g a b (x ∷ l) e i s = implied (f x.kind) (g x.kind) (every_terminal (λ k. implies (f k) (g k)) e x.kind) s

empty_starts : (f : Terminal → Bool) (x : Node) → IsNothing x → Starts f true (spell x)
empty_starts f (Leaf item) n = absurd n
empty_starts f Nothing n = refl
empty_starts f (Pair a b) n = absurd n

-- what follows a part, where the next part comes
pub allows_append : (f g : Terminal → Bool) (a : Bool) (l : List Item) (h : Option Terminal) → Starts g a l → Allows f h
    → Allows (λ k. either (g k) (both a (f k))) (ahead l h)
allows_append f g a [] None s al = tt
allows_append f g a [] (Some k) s al = either_right (g k) (both a (f k)) (both_make a (f k) s al)
allows_append f g a (x ∷ l) h s al = either_left (g x.kind) (both a (f x.kind)) s

pub passes_first : (ks : List Terminal) (g : Terminal → Bool) (l : List Item) (h : Option Terminal) → ((k : Terminal) → g k ≡ true → one_of ks k ≡ true)
    → Starts g false l → passes ks (ahead l h) ≡ true
passes_first ks g [] h p s = absurd cc
passes_first ks g (x ∷ l) h p s = p x.kind s

pub fails_first : (ks : List Terminal) (f g : Terminal → Bool) (a : Bool) (l : List Item) (h : Option Terminal)
    → ((k : Terminal) → g k ≡ true → one_of ks k ≡ false) → ((k : Terminal) → both a (f k) ≡ true → one_of ks k ≡ false) → Starts g a l → Allows f h
    → passes ks (ahead l h) ≡ false
fails_first ks f g a [] None p q s al = refl
fails_first ks f g a [] (Some k) p q s al = q k (both_make a (f k) s al)
fails_first ks f g a (x ∷ l) h p q s al = p x.kind s

spell_nothing : (x : Node) (h : Option Terminal) → IsNothing x → ahead (spell x) h ≡ h
spell_nothing (Leaf item) h n = absurd n
spell_nothing Nothing h n = refl
spell_nothing (Pair a b) h n = absurd n

pub allows_up : (f g : Terminal → Bool) (h : Option Terminal) → every (λ k. implies (f k) (g k)) ≡ true → Allows f h → Allows g h
allows_up f g None e al = tt
allows_up f g (Some k) e al = implied (f k) (g k) (every_terminal (λ k. implies (f k) (g k)) e k) al

-- ---- the parts of the check

module _ (t : LevelTables) where
  abbrev pub after : Grammar → (Terminal → Bool) → Bool → (Terminal → Bool) → Terminal → Bool
  after b f v o = λ k. either (first t b f v k) (both (nullable t b v) (o k))

  abbrev pub at_choice : List Terminal → Grammar → Grammar → (Terminal → Bool) → Bool → (Terminal → Bool) → Terminal → Bool
  at_choice ks a b f v o = λ k. both (implies (first t a f v k) (one_of ks k))
      (both (implies (first t b f v k) (not (one_of ks k))) (implies (both (nullable t b v) (o k)) (not (one_of ks k))))

  abbrev pub at_greedy : List Terminal → Grammar → (Terminal → Bool) → Bool → Terminal → Bool
  at_greedy ks a f v = λ k. implies (first t a f v k) (one_of ks k)

  -- what begins a loop
  abbrev pub head : Grammar → Terminal → Bool
  head a = first t a none false

  abbrev pub gap : Grammar → Bool
  gap a = nullable t a false

  pub seq_parts : (a b : Grammar) (f : Terminal → Bool) (v : Bool) (w o : Terminal → Bool) → decides t (seq a b) f v w o ≡ true
      → (decides t a f v w (after b f v o) ≡ true) × (decides t b f v w o ≡ true)
  seq_parts a b f v w o d = and_parts (decides t a f v w (after b f v o)) (decides t b f v w o) d

  pub record ChoiceParts (ks : List Terminal) (a b : Grammar) (f : Terminal → Bool) (v : Bool) (w o : Terminal → Bool) : Type 0 where
    pub left : decides t a f v w o ≡ true
    pub right : decides t b f v w o ≡ true
    pub full : nullable t a v ≡ false
    pub leads : (k : Terminal) → first t a f v k ≡ true → one_of ks k ≡ true
    pub differs : (k : Terminal) → first t b f v k ≡ true → one_of ks k ≡ false
    pub stays_out : (k : Terminal) → both (nullable t b v) (o k) ≡ true → one_of ks k ≡ false

  pub choice_parts : (ks : List Terminal) (a b : Grammar) (f : Terminal → Bool) (v : Bool) (w o : Terminal → Bool) → decides t (choice ks a b) f v w o ≡ true
      → ChoiceParts ks a b f v w o
  choice_parts ks a b f v w o d =
      let p = and_parts (both (decides t a f v w o) (decides t b f v w o)) (both (not (nullable t a v)) (every (at_choice ks a b f v o))) d in
      let q = and_parts (decides t a f v w o) (decides t b f v w o) p.0 in
      let m = and_parts (not (nullable t a v)) (every (at_choice ks a b f v o)) p.1 in
      let at : (k : Terminal) → at_choice ks a b f v o k ≡ true = every_terminal (at_choice ks a b f v o) m.1 in
      let one : (k : Terminal) → (implies (first t a f v k) (one_of ks k) ≡ true) ×
      (both (implies (first t b f v k) (not (one_of ks k))) (implies (both (nullable t b v) (o k)) (not (one_of ks k))) ≡ true) =
      λ k. and_parts (implies (first t a f v k) (one_of ks k))
      (both (implies (first t b f v k) (not (one_of ks k))) (implies (both (nullable t b v) (o k)) (not (one_of ks k)))) (at k) in
      let two : (k : Terminal) → (implies (first t b f v k) (not (one_of ks k)) ≡ true) × (implies (both (nullable t b v) (o k)) (not (one_of ks k)) ≡ true) =
      λ k. and_parts (implies (first t b f v k) (not (one_of ks k))) (implies (both (nullable t b v) (o k)) (not (one_of ks k))) (one k).1 in
      record {
        left = q.0;
        right = q.1;
        full = not-true (nullable t a v) m.0;
        leads = λ k i. implied (first t a f v k) (one_of ks k) (one k).0 i;
        differs = λ k i. not-true (one_of ks k) (implied (first t b f v k) (not (one_of ks k)) (two k).0 i);
        stays_out = λ k i. not-true (one_of ks k) (implied (both (nullable t b v) (o k)) (not (one_of ks k)) (two k).1 i);
      }

  pub record GreedyParts (ks : List Terminal) (a : Grammar) (f : Terminal → Bool) (v : Bool) (w o : Terminal → Bool) : Type 0 where
    pub inner : decides t a f v w o ≡ true
    pub full : nullable t a v ≡ false
    pub leads : (k : Terminal) → first t a f v k ≡ true → one_of ks k ≡ true

  pub greedy_parts : (ks : List Terminal) (a : Grammar) (f : Terminal → Bool) (v : Bool) (w o : Terminal → Bool) → decides t (greedy ks a) f v w o ≡ true
      → GreedyParts ks a f v w o
  greedy_parts ks a f v w o d =
      let p = and_parts (decides t a f v w o) (both (not (nullable t a v)) (every (at_greedy ks a f v))) d in
      let m = and_parts (not (nullable t a v)) (every (at_greedy ks a f v)) p.1 in
      record {
        inner = p.0;
        full = not-true (nullable t a v) m.0;
        leads = λ k i. implied (first t a f v k) (one_of ks k)
            (every_terminal (at_greedy ks a f v) m.1 k) i;
      }

  pub record LoopParts (a : Grammar) (o : Terminal → Bool) : Type 0 where
    pub inner : decides t a (head a) (gap a) o o ≡ true
    pub heads : every (λ k. implies (first t a (head a) (gap a) k) (head a k)) ≡ true
    pub gaps : implies (nullable t a (gap a)) (gap a) ≡ true

  pub loop_parts : (a : Grammar) (f : Terminal → Bool) (v : Bool) (w o : Terminal → Bool) → decides t (loop a) f v w o ≡ true → LoopParts a o
  loop_parts a f v w o d =
      let p = and_parts (decides t a (head a) (gap a) o o) (both (every (λ k. implies (first t a (head a) (gap a) k) (head a k)))
      (implies (nullable t a (gap a)) (gap a))) d in
      let q = and_parts (every (λ k. implies (first t a (head a) (gap a) k) (head a k))) (implies (nullable t a (gap a)) (gap a)) p.1 in
      record { inner = p.0; heads = q.0; gaps = q.1 }

-- ---- what begins a tree

rounds_begun : (F : (Node → Option Terminal → Type 0) → Node → Option Terminal → Type 0) (g : Terminal → Bool) (e : Bool)
    → ((V : Node → Option Terminal → Type 0) → Begun g e V → Begun g e (F V)) → (k : ℕ) → Begun g e (rounds k F)
rounds_begun F g e c zero x h r = absurd r
rounds_begun F g e c (suc k) x h r = c (rounds k F) (rounds_begun F g e c k) x h r

module _ (t : LevelTables) (E : Level → Node → Option Terminal → Type 0) (level_begun : (l : Level) → Begun (t.first_of l) (t.nullable_of l) (E l)) where
  pub begun : (g : Grammar) (f : Terminal → Bool) (v : Bool) (w o : Terminal → Bool) → decides t g f v w o ≡ true → (V : Node → Option Terminal → Type 0)
      → Begun f v V → Begun (first t g f v) (nullable t g v) (FreeIn E g V)
  begun (token ks) f v w o d V s (Leaf item) h r = r
  begun (token ks) f v w o d V s Nothing h r = absurd r
  begun (token ks) f v w o d V s (Pair a b) h r = absurd r
  begun nothing f v w o d V s (Leaf item) h r = absurd r
  begun nothing f v w o d V s Nothing h r = refl
  begun nothing f v w o d V s (Pair a b) h r = absurd r
  begun (seq a b) f v w o d V s (Leaf item) h r = absurd r
  begun (seq a b) f v w o d V s Nothing h r = absurd r
  begun (seq a b) f v w o d V s (Pair x y) h r =
      let p = seq_parts t a b f v w o d in
      starts_append (first t a f v) (first t b f v) (nullable t a v) (nullable t b v) (spell x) (spell y)
      (begun a f v w (after t b f v o) p.0 V s x (ahead (spell y) h) r.0) (begun b f v w o p.1 V s y h r.1)
  begun (choice ks a b) f v w o d V s x h r =
      let p = choice_parts t ks a b f v w o d in
      elim r [
        | inl q ↦ starts_left (first t a f v) (first t b f v) (nullable t a v) (nullable t b v) (spell x) (begun a f v w o p.left V s x h q)
        | inr q ↦ starts_right (first t a f v) (first t b f v) (nullable t a v) (nullable t b v) (spell x) (begun b f v w o p.right V s x h q)
      ]
  begun (greedy ks a) f v w o d V s x h r =
      let p = greedy_parts t ks a f v w o d in
      elim r [
        | inl q ↦ starts_nullable (first t a f v) (nullable t a v) (spell x) (begun a f v w o p.inner V s x h q)
        | inr q ↦ empty_starts (first t a f v) x q.0
      ]
  begun (level l) f v w o d V s x h r = level_begun l x h r
  begun (loop a) f v w o d V s x h r =
      let p = loop_parts t a f v w o d in
      rounds_begun (FreeIn E a) (head t a) (gap t a)
      (λ W c y i q. starts_up (first t a (head t a) (gap t a)) (head t a) (nullable t a (gap t a)) (gap t a) (spell y) p.heads p.gaps
      (begun a (head t a) (gap t a) o o p.inner W c y i q)) r.0 x h r.1
  begun again f v w o d V s x h r = s x h r

-- ---- free trees are those to which the tests lead

abbrev pub Tested : (Terminal → Bool) → (Node → Option Terminal → Type 0) → (Node → Option Terminal → Type 0) → Type 0
Tested f P Q = (x : Node) (h : Option Terminal) → Allows f h → P x h → Q x h

pub none_begun : Begun none false IsNone
none_begun x h r = absurd r

pub none_tested : Tested none IsNone IsNone
none_tested x h al r = r

rounds_tested : (F G : (Node → Option Terminal → Type 0) → Node → Option Terminal → Type 0) (o : Terminal → Bool)
    → ((k : ℕ) (W : Node → Option Terminal → Type 0) → Tested o (rounds k F) W → Tested o (F (rounds k F)) (G W)) → (k : ℕ) → Tested o (rounds k F) (rounds k G)
rounds_tested F G o c zero x h al r = absurd r
rounds_tested F G o c (suc k) x h al r = c k (rounds k G) (rounds_tested F G o c k) x h al r

module _ (t : LevelTables) (E T : Level → Node → Option Terminal → Type 0) (level_begun : (l : Level) → Begun (t.first_of l) (t.nullable_of l) (E l))
    (level_tested : (l : Level) → Tested (t.follow_of l) (E l) (T l)) where
  pub tested : (g : Grammar) (f : Terminal → Bool) (v : Bool) (w o : Terminal → Bool) → decides t g f v w o ≡ true → (V W : Node → Option Terminal → Type 0)
      → Begun f v V → Tested w V W → Tested o (FreeIn E g V) (Is T g W)
  tested (token ks) f v w o d V W s u x h al r = r
  tested nothing f v w o d V W s u x h al r = r
  tested (seq a b) f v w o d V W s u (Leaf item) h al r = r
  tested (seq a b) f v w o d V W s u Nothing h al r = r
  tested (seq a b) f v w o d V W s u (Pair x y) h al r =
      let p = seq_parts t a b f v w o d in (
        tested a f v w (after t b f v o) p.0 V W s u x (ahead (spell y) h)
            (allows_append o (first t b f v) (nullable t b v) (spell y) h (begun t E level_begun b f v w o p.1 V s y h r.1) al) r.0,
        tested b f v w o p.1 V W s u y h al r.1,
      )
  tested (choice ks a b) f v w o d V W s u x h al r =
      let p = choice_parts t ks a b f v w o d in
      elim r [
        | inl q ↦ inl (
          passes_first ks (first t a f v) (spell x) h p.leads
              (solid_starts (first t a f v) (nullable t a v) (spell x) p.full (begun t E level_begun a f v w o p.left V s x h q)),
          tested a f v w o p.left V W s u x h al q,
        )
        | inr q ↦ inr (
          fails_first ks o (first t b f v) (nullable t b v) (spell x) h p.differs p.stays_out
              (begun t E level_begun b f v w o p.right V s x h q) al,
          tested b f v w o p.right V W s u x h al q,
        )
      ]
  tested (greedy ks a) f v w o d V W s u x h al r =
      let p = greedy_parts t ks a f v w o d in
      elim r [
        | inl q ↦ inl (
          passes_first ks (first t a f v) (spell x) h p.leads
              (solid_starts (first t a f v) (nullable t a v) (spell x) p.full (begun t E level_begun a f v w o p.inner V s x h q)),
          tested a f v w o p.inner V W s u x h al q,
        )
        | inr q ↦ inr (subst (λ (k : Option Terminal). passes ks k ≡ false) (sym (spell_nothing x h q.0)) q.1, q.0)
      ]
  tested (level l) f v w o d V W s u x h al r = level_tested l x h (allows_up o (t.follow_of l) h d al) r
  tested (loop a) f v w o d V W s u x h al r =
      let p = loop_parts t a f v w o d in
      let begins : (k : ℕ) → Begun (head t a) (gap t a) (rounds k (FreeIn E a)) =
      rounds_begun (FreeIn E a) (head t a) (gap t a)
      (λ W c y i q. starts_up (first t a (head t a) (gap t a)) (head t a) (nullable t a (gap t a)) (gap t a) (spell y) p.heads p.gaps
      (begun t E level_begun a (head t a) (gap t a) o o p.inner W c y i q)) in (
        r.0,
        rounds_tested (FreeIn E a) (Is T a) o (λ k W c y i al q. tested a (head t a) (gap t a) o o p.inner (rounds k (FreeIn E a)) W (begins k) c y i al q)
            r.0 x h al r.1,
      )
  tested again f v w o d V W s u x h al r = u x h (allows_up o w h d al) r

-- ---- and back

nothing_next : (ks : List Terminal) (x : Node) (h : Option Terminal) → passes ks (ahead (spell x) h) ≡ false → IsNothing x → IsNothing x × (passes ks h ≡ false)
nothing_next ks (Leaf item) h e n = absurd n
nothing_next ks Nothing h e n = (n, e)
nothing_next ks (Pair a b) h e n = absurd n

rounds_back : (F G : (Node → Option Terminal → Type 0) → Node → Option Terminal → Type 0)
    → ((V W : Node → Option Terminal → Type 0) → IsPart V W → IsPart (F V) (G W)) → (k : ℕ) → IsPart (rounds k F) (rounds k G)
rounds_back F G c zero x h r = absurd r
rounds_back F G c (suc k) x h r = c (rounds k F) (rounds k G) (rounds_back F G c k) x h r

module _ (P Q : Level → Node → Option Terminal → Type 0) (back : (l : Level) → IsPart (P l) (Q l)) where
  pub freed : (g : Grammar) (V W : Node → Option Terminal → Type 0) → IsPart V W → IsPart (Is P g V) (FreeIn Q g W)
  freed (token ks) V W c x h r = r
  freed nothing V W c x h r = r
  freed (seq a b) V W c (Leaf item) h r = r
  freed (seq a b) V W c Nothing h r = r
  freed (seq a b) V W c (Pair x y) h r = (freed a V W c x (ahead (spell y) h) r.0, freed b V W c y h r.1)
  freed (choice ks a b) V W c x h r = elim r [ inl s ↦ inl (freed a V W c x h s.1) | inr s ↦ inr (freed b V W c x h s.1) ]
  freed (greedy ks a) V W c x h r = elim r [ inl s ↦ inl (freed a V W c x h s.1) | inr s ↦ inr (nothing_next ks x h s.0 s.1) ]
  freed (level l) V W c x h r = back l x h r
  freed (loop a) V W c x h r = (r.0, rounds_back (Is P a) (FreeIn Q a) (freed a) r.0 x h r.1)
  freed again V W c x h r = c x h r
