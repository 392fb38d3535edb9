-- A tree in which a node begins too deep is refused as too deep at that node or before it.
use Rattle.std.proofs.Common.{◌++◌, ◌∙◌, ◌≡◌, ◌≤◌, [], ℕ, Bool, List, None, Ok, Option, ap, append_assoc, cond, false, inl, inr, refl, subst, suc, sym, true}
use Rattle.std.proofs.{Common.zero, lemmas.Bool.and_parts}
use Rattle.grammar.proofs.{Exact.ahead_append, Larger.IsPart, Larger.all_in, Larger.free_up, Larger.rounds_map, LevelsTested.level_parts}
use Rattle.grammar.proofs.{LevelsTested.rule_sane, LevelsTested.whole_parts, Loops.Guards, Loops.guarded_same, Loops.turning_again, Somewhere.AtSome}
use Rattle.grammar.proofs.{Somewhere.at_some, Somewhere.nested, Somewhere.whole_nested, Wholes.level_shortens, Wholes.levels_exact}
use Rattle.grammar.proofs.Decided.{Allows, Begun, Tested, after, allows_append, allows_up, begun, choice_parts, fails_first, gap, greedy_parts, head}
use Rattle.grammar.proofs.Decided.{loop_parts, none_begun, none_tested, passes_first, seq_parts, solid_starts, tested}
use Rattle.grammar.proofs.ReadOrTooDeep.{AllGo, DeepIn, Goes, Placed, expected, first_deep, goes, level_goes, nested_begun, nested_placed, second_deep}
use Rattle.grammar.specs.{Terminals.passes, Tested.Is, Tested.Within, declared.terminals.Terminal.Terminal}
use Rattle.grammar.specs.Deciding.{IsDecided, LevelTables, decides, expects, first, guarded, none, nullable, sane}
use Rattle.grammar.specs.Grammars.{FreeIn, Grammar, IsNone, Level, again, choice, greedy, level, loop, nothing, rounds, seq, token}
use Rattle.grammar.specs.Nesting.{BeginsAt, BeginsDeep, BeginsIn, IsShaped, Nested, Places, Trees, in_rounds, nowhere}
use Rattle.grammar.specs.Nodes.{Item, Leaf, Node, Nothing, Pair, ahead, next, spell}
use Rattle.grammar.specs.Reading.{Read, levels, read, reads, then_pair, turning, unfit_here}

-- ---- a tree with a place is a tree

module _ (E : Level → Trees) where
  abbrev pub Loop : Grammar → Trees
  Loop a x h = (k : ℕ) × rounds k (FreeIn E a) x h

  abbrev rounds_of : Grammar → ℕ → Trees
  rounds_of a k = rounds k (FreeIn E a)

  up : (n m : ℕ) → n ≤ m → (v : Level) → IsPart (E v) (E v)
  up n m le v x h r = r

  -- a round of a loop that goes on as the loop is a loop
  pub fold : (a : Grammar) → IsPart (FreeIn E a (Loop a)) (Loop a)
  fold a x h r =
      let wide = free_up E (AtSome (λ n. E) up) (λ v x h r. (0, r)) a (Loop a) (Loop a) (all_in (Loop a)) x h r in
      let p = at_some (λ n. E) up a (Loop a) (rounds_of a) (λ n m le. rounds_map (FreeIn E a) (FreeIn E a) (free_up E E (λ v x h r. r) a) n m le)
      (λ x h r. r) x h wide in
      (suc p.0, p.1)

  module _ (D : Level → Places) (level_forget : (v : Level) (x : Node) (h : Option Terminal) (f : List Item) → D v x h f → E v x h) where
    rounds_forget : (a : Grammar) → ((M : Places) → ((x : Node) (h : Option Terminal) (f : List Item) → M x h f → Loop a x h)
        → (x : Node) (h : Option Terminal) (f : List Item) → BeginsIn E D a (Loop a) M x h f → FreeIn E a (Loop a) x h)
        → (k : ℕ) (x : Node) (h : Option Terminal) (f : List Item) → in_rounds k (BeginsIn E D a (Loop a)) x h f → Loop a x h
    rounds_forget a c zero x h f r = absurd r
    rounds_forget a c (suc k) x h f r = fold a x h (c (in_rounds k (BeginsIn E D a (Loop a))) (rounds_forget a c k) x h f r)

    pub forget : (g : Grammar) (V : Trees) (M : Places) → ((x : Node) (h : Option Terminal) (f : List Item) → M x h f → V x h)
        → (x : Node) (h : Option Terminal) (f : List Item) → BeginsIn E D g V M x h f → FreeIn E g V x h
    forget (token ks) V M c x h f r = absurd r
    forget nothing V M c x h f r = absurd r
    forget (seq a b) V M c (Leaf item) h f r = absurd r
    forget (seq a b) V M c Nothing h f r = absurd r
    forget (seq a b) V M c (Pair x y) h f r = elim r [ inl s ↦ (forget a V M c x (ahead (spell y) h) f s.0, s.1) | inr s ↦ (s.2, forget b V M c y h s.0 s.3) ]
    forget (choice ks a b) V M c x h f r = elim r [ inl s ↦ inl (forget a V M c x h f s) | inr s ↦ inr (forget b V M c x h f s) ]
    forget (greedy ks a) V M c x h f r = inl (forget a V M c x h f r)
    forget (level v) V M c x h f r = level_forget v x h f r
    forget (loop a) V M c x h f r = rounds_forget a (forget a (Loop a)) r.0 x h f r.1
    forget again V M c x h f r = c x h f r

-- no loop around a whole text
pub nowhere_none : (x : Node) (h : Option Terminal) (f : List Item) → nowhere x h f → IsNone x h
nowhere_none x h f r = r

pub level_forget : (rule : Level → Grammar) (n : ℕ) (v : Level) (x : Node) (h : Option Terminal) (f : List Item) → BeginsAt rule n v x h f → Nested rule v x h
unfolding BeginsAt
level_forget rule zero v x h f r = r.1
level_forget rule (suc n) v x h f r = nested rule v x h (forget (Nested rule) (BeginsAt rule n) (level_forget rule n)
    (rule v) IsNone nowhere nowhere_none x h f r)

pub deep_shaped : (t : LevelTables) (n : ℕ) (g : Grammar) (x : Node) (f : List Item) → BeginsDeep t n g x f → IsShaped t g x
deep_shaped t n g x f r = whole_nested t.rule g x None (forget (Nested t.rule) (BeginsAt t.rule n)
    (level_forget t.rule n) g IsNone nowhere nowhere_none x None f r)

-- ---- reading comes too deep at that node or before it

abbrev pub DeepBefore : (List Item → Read) → Node → List Item → List Item → Type 0
DeepBefore p x rest f = (d : DeepIn p x rest) × (mid : List Item) × (f ≡ d.0 ++ mid)

abbrev pub AllDeep : (Terminal → Bool) → Places → (List Item → Read) → Type 0
AllDeep o M p = (x : Node) (rest f : List Item) → Allows o (next rest) → M x (next rest) f → DeepBefore p x rest f

pair_deep_first : (p q : List Item → Read) (a b : Node) (rest f : List Item) → DeepBefore p a (spell b ++ rest) f
    → DeepBefore (λ l. then_pair (p l) q) (Pair a b) rest f
unfolding first_deep
pair_deep_first p q a b rest f d = (first_deep p q a b rest d.0, d.1, d.2)

pair_deep_second : (p q : List Item → Read) (a b : Node) (rest f f' : List Item) → f ≡ spell a ++ f' → Goes p a (spell b ++ rest) → DeepBefore q b rest f'
    → DeepBefore (λ l. then_pair (p l) q) (Pair a b) rest f
unfolding first_deep second_deep
pair_deep_second p q a b rest f f' e g d =
    elim g [
      | inl o ↦ (second_deep p q a b rest o d.0, d.1, e ∙ ap (λ (l : List Item). spell a ++ l) d.2 ∙ sym (append_assoc (spell a) d.0.0 d.1))
      | inr c ↦ (first_deep p q a b rest c, c.1 ++ f', e ∙ ap (λ (l : List Item). l ++ f') c.2 ∙ append_assoc c.0 c.1 f')
    ]

led_deep : (b : Bool) (p q : List Item → Read) (ks : List Terminal) (x : Node) (rest f : List Item) → passes ks (next (spell x ++ rest)) ≡ b
    → DeepBefore (cond b p q) x rest f → DeepBefore (λ l. cond (passes ks (next l)) (p l) (q l)) x rest f
led_deep true p q ks x rest f e d =
    let same : cond (passes ks (next (spell x ++ rest))) (p (spell x ++ rest)) (q (spell x ++ rest)) ≡ p (spell x ++ rest) = rw e refl in
    ((d.0.0, d.0.1, d.0.2, same ∙ d.0.3), d.1, d.2)
led_deep false p q ks x rest f e d =
    let same : cond (passes ks (next (spell x ++ rest))) (p (spell x ++ rest)) (q (spell x ++ rest)) ≡ q (spell x ++ rest) = rw e refl in
    ((d.0.0, d.0.1, d.0.2, same ∙ d.0.3), d.1, d.2)

same_deep : (p q : List Item → Read) → ((l : List Item) → q l ≡ p l) → (x : Node) (rest f : List Item) → DeepBefore p x rest f → DeepBefore q x rest f
same_deep p q e x rest f d = ((d.0.0, d.0.1, d.0.2, e (spell x ++ rest) ∙ d.0.3), d.1, d.2)

loop_deep : (o : Terminal → Bool) (F : Places → Places) (f : (List Item → Read) → List Item → Read) → Guards f
    → ((k : ℕ) → AllDeep o (in_rounds k F) (turning f) → AllDeep o (F (in_rounds k F)) (f (turning f))) → (k : ℕ) → AllDeep o (in_rounds k F) (turning f)
loop_deep o F f guards body zero x rest at al h = absurd h
loop_deep o F f guards body (suc k) x rest at al h = same_deep (f (turning f)) (turning f) (turning_again f guards) x rest at
    (body k (loop_deep o F f guards body k) x rest at al h)

-- what a choice's tests say of what begins a tree
module _ (t : LevelTables) (whole : Grammar) (ok : IsDecided t whole ≡ true) where
  -- what surrounds a part of a grammar: the loop around it
  pub record Around (n : ℕ) (f : Terminal → Bool) (v : Bool) (w : Terminal → Bool) (V W : Trees) (M : Places) (u : List Item → Read) : Type 0 where
    pub begins : Begun f v V
    pub tests : Tested w V W
    pub reach : AllGo W u
    pub deep : AllDeep w M u
    pub trees : (x : Node) (h : Option Terminal) (at : List Item) → M x h at → V x h

  module _ (n : ℕ) (level_deep : (v : Level) → AllDeep (t.follow_of v) (BeginsAt t.rule n v) (levels t n v)) where
    abbrev E : Level → Trees
    E = Nested t.rule

    abbrev D : Level → Places
    D = BeginsAt t.rule n

    abbrev P : Level → Trees
    P = Placed t whole ok

    pub deep : (g : Grammar) (f : Terminal → Bool) (v : Bool) (w o : Terminal → Bool) → sane g ≡ true → decides t g f v w o ≡ true
        → (V W : Trees) (M : Places) (u : List Item → Read) → Around n f v w V W M u
        → AllDeep o (BeginsIn E D g V M) (reads (levels t n) g u)
    deep (token ks) f v w o s d V W M u i x rest at al m = absurd m
    deep nothing f v w o s d V W M u i x rest at al m = absurd m
    deep (seq a b) f v w o s d V W M u i (Leaf item) rest at al m = absurd m
    deep (seq a b) f v w o s d V W M u i Nothing rest at al m = absurd m
    deep (seq a b) f v w o s d V W M u i (Pair x y) rest at al m =
        let p = and_parts (sane a) (sane b) s in
        let q = seq_parts t a b f v w o d in
        let here = sym (ahead_append (spell y) rest None) in
        let behind : FreeIn E b V y (next rest) → Allows (after t b f v o) (ahead (spell y) (next rest)) =
        λ r. allows_append o (first t b f v) (nullable t b v) (spell y) (next rest)
        (begun t E (nested_begun t whole ok) b f v w o q.1 V i.begins y (next rest) r) al in
        elim m [
          | inl z ↦
              pair_deep_first (reads (levels t n) a u) (reads (levels t n) b u) x y rest at
              (deep a f v w (after t b f v o) p.0 q.0 V W M u i x (spell y ++ rest) at (subst (Allows (after t b f v o)) here (behind z.1))
              (subst (λ (j : Option Terminal). BeginsIn E D a V M x j at) here z.0))
          | inr z ↦
              let free : FreeIn E b V y (next rest) = forget E D (level_forget t.rule n) b V M i.trees y (next rest) z.0 z.3 in
              let first_is : Is P a W x (ahead (spell y) (next rest)) =
              tested t E P (nested_begun t whole ok) (nested_placed t whole ok) a f v w (after t b f v o) q.0 V W i.begins i.tests x
              (ahead (spell y) (next rest)) (behind free) z.2 in
              pair_deep_second (reads (levels t n) a u) (reads (levels t n) b u) x y rest at z.0 z.1
              (goes t whole ok n (level_goes t whole ok n) a p.0 W u i.reach x (spell y ++ rest) (subst (Is P a W x) here first_is))
              (deep b f v w o p.1 q.1 V W M u i y rest z.0 al z.3)
        ]
    deep (choice ks a b) f v w o s d V W M u i x rest at al m =
        let p = and_parts (sane a) (sane b) s in
        let q = choice_parts t ks a b f v w o d in
        let here = sym (ahead_append (spell x) rest None) in
        elim m [
          | inl z ↦
              let free : FreeIn E a V x (next rest) = forget E D (level_forget t.rule n) a V M i.trees x (next rest) at z in
              let test : passes ks (ahead (spell x) (next rest)) ≡ true =
              passes_first ks (first t a f v) (spell x) (next rest) q.leads
              (solid_starts (first t a f v) (nullable t a v) (spell x) q.full
              (begun t E (nested_begun t whole ok) a f v w o q.left V i.begins x (next rest) free)) in
              led_deep true (reads (levels t n) a u) (reads (levels t n) b u) ks x rest at (subst (λ (j : Option Terminal). passes ks j ≡ true) here test)
              (deep a f v w o p.0 q.left V W M u i x rest at al z)
          | inr z ↦
              let free : FreeIn E b V x (next rest) = forget E D (level_forget t.rule n) b V M i.trees x (next rest) at z in
              let test : passes ks (ahead (spell x) (next rest)) ≡ false =
              fails_first ks o (first t b f v) (nullable t b v) (spell x) (next rest) q.differs q.stays_out
              (begun t E (nested_begun t whole ok) b f v w o q.right V i.begins x (next rest) free) al in
              led_deep false (reads (levels t n) a u) (reads (levels t n) b u) ks x rest at (subst (λ (j : Option Terminal). passes ks j ≡ false) here test)
              (deep b f v w o p.1 q.right V W M u i x rest at al z)
        ]
    deep (greedy ks a) f v w o s d V W M u i x rest at al m =
        let q = greedy_parts t ks a f v w o d in
        let here = sym (ahead_append (spell x) rest None) in
        let free : FreeIn E a V x (next rest) = forget E D (level_forget t.rule n) a V M i.trees x (next rest) at m in
        let test : passes ks (ahead (spell x) (next rest)) ≡ true =
        passes_first ks (first t a f v) (spell x) (next rest) q.leads
        (solid_starts (first t a f v) (nullable t a v) (spell x) q.full
        (begun t E (nested_begun t whole ok) a f v w o q.inner V i.begins x (next rest) free)) in
        led_deep true (reads (levels t n) a u) (λ l. Ok (Nothing, l)) ks x rest at (subst (λ (j : Option Terminal). passes ks j ≡ true) here test)
        (deep a f v w o s q.inner V W M u i x rest at al m)
    deep (level l) f v w o s d V W M u i x rest at al m = level_deep l x rest at (allows_up o (t.follow_of l) (next rest) d al) m
    deep (loop a) f v w o s d V W M u i x rest at al m =
        let p = and_parts (sane a) (guarded a) s in
        let q = loop_parts t a f v w o d in
        let read = reads (levels t n) a in
        let guards = guarded_same (levels t n) (level_shortens (Within t.rule n) (levels t n) (levels_exact t (rule_sane t whole ok) n)) a p.1 in
        let around : (k : ℕ) → AllDeep o (in_rounds k (BeginsIn E D a (Loop E a))) (turning read)
        → Around n (head t a) (gap t a) o (Loop E a) (λ x h. (j : ℕ) × rounds j (Is P a) x h) (in_rounds k (BeginsIn E D a (Loop E a))) (turning read) =
        λ k r. record {
          begins = begun t E (nested_begun t whole ok) (loop a) f v w o d V i.begins;
          tests = tested t E P (nested_begun t whole ok) (nested_placed t whole ok) (loop a) f v w o d V W i.begins i.tests;
          reach = goes t whole ok n (level_goes t whole ok n) (loop a) s W u i.reach;
          deep = r;
          trees = λ y h f z. forget E D (level_forget t.rule n) (loop a) V M i.trees y h f (k, z);
        } in
        loop_deep o (BeginsIn E D a (Loop E a)) read guards
        (λ k r. deep a (head t a) (gap t a) o o p.0 q.inner (Loop E a) (λ x h. (j : ℕ) × rounds j (Is P a) x h) (in_rounds k (BeginsIn E D a (Loop E a)))
        (turning read) (around k r)) m.0 x rest at al m.1
    deep again f v w o s d V W M u i x rest at al m = i.deep x rest at (allows_up o w (next rest) d al) m

  none_around : (n : ℕ) → Around n none false none IsNone IsNone nowhere unfit_here
  none_around n = record {
    begins = none_begun;
    tests = none_tested;
    reach = λ x rest h. absurd h;
    deep = λ x rest f al h. absurd h;
    trees = nowhere_none;
  }

  pub level_deep : (n : ℕ) (v : Level) → AllDeep (t.follow_of v) (BeginsAt t.rule n v) (levels t n v)
  unfolding levels BeginsAt
  level_deep zero v x rest f al m = let e : expects t v (next (spell x ++ rest)) ≡ true =
      expected t whole ok v x rest m.1 al in (([], spell x, refl, rw e refl), [], m.0)
  level_deep (suc n) v x rest f al m =
      deep n (level_deep n) (t.rule v) none false none (t.follow_of v) (rule_sane t whole ok v) (level_parts t whole ok v).decided IsNone IsNone nowhere
      unfit_here
      (none_around n) x rest f al m

  pub whole_deep : (n : ℕ) (x : Node) (f : List Item) → BeginsDeep t n whole x f → DeepBefore (read t n whole) x [] f
  unfolding read
  whole_deep n x f m =
      deep n (level_deep n) whole none false none none (whole_parts t whole ok).sound (whole_parts t whole ok).decided IsNone IsNone nowhere unfit_here
      (none_around n) x [] f tt m
