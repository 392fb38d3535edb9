-- What was read before a refusal begins the spelling of a tree.
use Rattle.std.proofs.Common.{◌++◌, ◌∙◌, ◌∷◌, ◌≡◌, ◌⊎◌, [], ℕ, Bool, Err, List, None, Ok, Option, Some, ap, append_assoc, cond, false, inl, inr, length, not}
use Rattle.std.proofs.Common.{refl, subst, suc, sym, true, zero}
use Rattle.std.proofs.lemmas.Bool.{and_parts, not-true}
use Rattle.grammar.proofs.{Bools.implied, Decided.Allows, Decided.freed, Deepest.Loop, Deepest.fold, Every.every_terminal, Larger.IsPart, Larger.is_up}
use Rattle.grammar.proofs.{Larger.none_in, Loops.guarded_same, Somewhere.nested, Somewhere.whole_nested}
use Rattle.grammar.proofs.Exact.{Exact, bind_err, err_is, none_exact, ok_no_err, ok_or_err, token_fails}
use Rattle.grammar.proofs.LevelsTested.{every_level, free_within, rule_sane, whole_parts}
use Rattle.grammar.proofs.Wholes.{grammar_exact, level_shortens, levels_exact, rounds_exact}
use Rattle.grammar.specs.{Nesting.IsShaped, Nesting.Nested, Nesting.Trees, Tested.Is, Tested.Within, declared.terminals.Terminal.Terminal}
use Rattle.grammar.specs.Completing.{IsCompleted, begins_calm, brief_of, completes, ends_empty, first_in, has_brief, level_completes, short, spares, sure}
use Rattle.grammar.specs.Deciding.{IsDecided, LevelTables, all_levels, both, expects, guarded, implies, sane}
use Rattle.grammar.specs.Grammars.{FreeIn, FreeWithin, Grammar, IsNone, IsPair, Level, again, choice, greedy, level, loop, nothing, rounds, seq, token}
use Rattle.grammar.specs.Nodes.{Item, Leaf, Node, Nothing, Pair, ahead, leaf, next, spell}
use Rattle.grammar.specs.Reading.{◌>>=◌, Deep, Read, Refusal, Unfit, levels, read, reads, turning, turns, unfit_here, unread_of}
use Rattle.grammar.specs.Terminals.{every_of, one_of, passes}

module _ (calm : Terminal → Bool) where
  -- ---- in front of a calm terminal a tree stays one

  abbrev pub Moves : Trees → Type 0
  Moves Q = (x : Node) (h i : Option Terminal) → Allows calm i → Q x h → Q x i

  not_passed : (ks : List Terminal) (h : Option Terminal) → spares calm ks ≡ true → Allows calm h → passes ks h ≡ false
  not_passed ks None e c = refl
  not_passed ks (Some k) e c = not-true (one_of ks k) (implied (calm k) (not (one_of ks k)) (every_terminal (λ k. implies (calm k) (not (one_of ks k))) e k) c)

  pair_moves : (Q : Trees) → Moves Q → (l : List Item) (x : Node) (h i : Option Terminal) → Allows calm i → Q x (ahead l h) → Q x (ahead l i)
  pair_moves Q m [] x h i c r = m x h i c r
  pair_moves Q m (z ∷ l) x h i c r = r

  rounds_move : (F : Trees → Trees) → ((V : Trees) → Moves V → Moves (F V)) → (k : ℕ) → Moves (rounds k F)
  rounds_move F c zero x h i a r = absurd r
  rounds_move F c (suc k) x h i a r = c (rounds k F) (rounds_move F c k) x h i a r

  module _ (brief : Level → Node) (has : Level → Bool) (E : Level → Trees) (level_moves : (l : Level) → Moves (E l)) where
    pub moves : (g : Grammar) (s : Node) (v : Bool) → completes calm brief has g s v ≡ true → (V : Trees) → Moves V → Moves (FreeIn E g V)
    moves (token ks) s v d V m x h i c r = r
    moves nothing s v d V m x h i c r = r
    moves (seq a b) s v d V m (Leaf item) h i c r = absurd r
    moves (seq a b) s v d V m Nothing h i c r = absurd r
    moves (seq a b) s v d V m (Pair x y) h i c r =
        let p = and_parts (both (completes calm brief has a s v) (completes calm brief has b s v))
        (both (sure calm brief has b s v) (begins_calm calm (spell (short brief b s)))) d in
        let q = and_parts (completes calm brief has a s v) (completes calm brief has b s v) p.0 in
        (pair_moves (FreeIn E a V) (moves a s v q.0 V m) (spell y) x h i c r.0, moves b s v q.1 V m y h i c r.1)
    moves (choice ks a b) s v d V m x h i c r =
        let p = and_parts (completes calm brief has a s v) (completes calm brief has b s v) d in elim r
        [ inl z ↦ inl (moves a s v p.0 V m x h i c z) | inr z ↦ inr (moves b s v p.1 V m x h i c z) ]
    moves (greedy ks a) s v d V m x h i c r =
        let p = and_parts (completes calm brief has a s v) (spares calm ks) d in elim r
        [ inl z ↦ inl (moves a s v p.0 V m x h i c z) | inr z ↦ inr (z.0, not_passed ks i p.1 c) ]
    moves (level l) s v d V m x h i c r = level_moves l x h i c r
    moves (loop a) s v d V m x h i c r =
        let p = and_parts (completes calm brief has a (short brief a Nothing) true) (sure calm brief has a Nothing false) d in
        (r.0, rounds_move (FreeIn E a) (moves a (short brief a Nothing) true p.0) r.0 x h i c r.1)
    moves again s v d V m x h i c r = m x h i c r

  -- ---- short trees

  -- a tree of these in front of each calm terminal
  abbrev pub Fits : Trees → Node → Type 0
  Fits Q x = (h : Option Terminal) → Allows calm h → Q x h

  pub calm_ahead : (l : List Item) (h : Option Terminal) → begins_calm calm l ≡ true → Allows calm h → Allows calm (ahead l h)
  calm_ahead [] h b c = c
  calm_ahead (x ∷ l) h b c = b

  either_fits : (P Q : Trees) (e : Bool) (c d : Bool) (x y : Node) → (d ≡ true → Fits Q y) → (c ≡ true → Fits P x) → cond e d c ≡ true
      → Fits (λ z h. P z h ⊎ Q z h) (cond e y x)
  either_fits P Q true c d x y f g h i a = inr (f h i a)
  either_fits P Q false c d x y f g h i a = inl (g h i a)

  module _ (brief : Level → Node) (has : Level → Bool) (E : Level → Trees) (level_fits : (l : Level) → has l ≡ true → Fits (E l) (brief l)) where
    pub short_fits : (g : Grammar) (s : Node) (v : Bool) → sure calm brief has g s v ≡ true → (V : Trees) → (v ≡ true → Fits V s)
        → Fits (FreeIn E g V) (short brief g s)
    short_fits (token ks) s v d V f h c = d
    short_fits nothing s v d V f h c = tt
    short_fits (seq a b) s v d V f h c =
        let p = and_parts (both (sure calm brief has a s v) (sure calm brief has b s v)) (begins_calm calm (spell (short brief b s))) d in
        let q = and_parts (sure calm brief has a s v) (sure calm brief has b s v) p.0 in
        (short_fits a s v q.0 V f (ahead (spell (short brief b s)) h) (calm_ahead (spell (short brief b s)) h p.1 c), short_fits b s v q.1 V f h c)
    short_fits (choice ks a b) s v d V f h c =
        either_fits (FreeIn E a V) (FreeIn E b V) (ends_empty b) (sure calm brief has a s v) (sure calm brief has b s v) (short brief a s) (short brief b s)
        (λ e. short_fits b s v e V f) (λ e. short_fits a s v e V f) d h c
    short_fits (greedy ks a) s v d V f h c = inr (tt, not_passed ks h d c)
    short_fits (level l) s v d V f h c = level_fits l d h c
    short_fits (loop a) s v d V f h c = (1, short_fits a Nothing false d (rounds 0 (FreeIn E a)) (λ e. absurd cc) h c)
    short_fits again s v d V f h c = f d h c

    pub loop_fits : (a : Grammar) → sure calm brief has a Nothing false ≡ true → Fits (Loop E a) (short brief a Nothing)
    loop_fits a d h c = (1, short_fits a Nothing false d (rounds 0 (FreeIn E a)) (λ e. absurd cc) h c)

  pub brief_fits : (rule : Level → Grammar) (d : ℕ) (l : Level) → has_brief calm rule d l ≡ true → Fits (Nested rule l) (brief_of calm rule d l)
  brief_fits rule zero l e h c = absurd cc
  brief_fits rule (suc d) l e h c =
      nested rule l (short (brief_of calm rule d) (rule l) Nothing) h
      (short_fits (brief_of calm rule d) (has_brief calm rule d) (Nested rule) (brief_fits rule d) (rule l) Nothing false e IsNone (λ i. absurd cc) h c)

  -- ---- what was taken is completed

  -- a tree that begins with what was taken, in front of each calm terminal
  pub record Completed (Q : Trees) (l left : List Item) : Type 0 where
    pub front : List Item
    pub whole : l ≡ front ++ left
    pub tree : Node
    pub more : List Item
    pub begins : spell tree ≡ front ++ more
    pub fits : Fits Q tree

  completed_map : (P Q : Trees) → IsPart P Q → (l left : List Item) → Completed P l left → Completed Q l left
  completed_map P Q f l left s = record {
    front = s.front;
    whole = s.whole;
    tree = s.tree;
    more = s.more;
    begins = s.begins;
    fits = λ h c. f s.tree h (s.fits h c);
  }

  -- nothing was taken
  at_once : (Q : Trees) (x : Node) → Fits Q x → (l left : List Item) → l ≡ left → Completed Q l left
  at_once Q x f l left e = record { front = []; whole = e; tree = x; more = spell x; begins = refl; fits = f }

  -- the first part breaks off
  first_breaks : (A B : Trees) (y : Node) → begins_calm calm (spell y) ≡ true → Fits B y → (l left : List Item) → Completed A l left
      → Completed (IsPair A B) l left
  first_breaks A B y b f l left s = record {
    front = s.front;
    whole = s.whole;
    tree = Pair s.tree y;
    more = s.more ++ spell y;
    begins = ap (λ (m : List Item). m ++ spell y) s.begins ∙ append_assoc s.front s.more (spell y);
    fits = λ h c. (s.fits (ahead (spell y) h) (calm_ahead (spell y) h b c), f h c);
  }

  -- a tree before one that broke off
  second_breaks : (A B : Trees) → Moves A → (x y : Node) (l m left : List Item) → l ≡ spell x ++ m → A x (next m) → begins_calm calm (spell y) ≡ true → Fits B y
      → Completed B m left → Completed (IsPair A B) l left
  second_breaks A B move x y l m left whole fits b f s = by_front s.front s.whole s.begins
    where
      by_front : (front : List Item) → m ≡ front ++ left → spell s.tree ≡ front ++ s.more → Completed (IsPair A B) l left
      by_front [] e g = record {
        front = spell x;
        whole = whole ∙ ap (λ (z : List Item). spell x ++ z) e;
        tree = Pair x y;
        more = spell y;
        begins = refl;
        fits = λ h c. (move x (next m) (ahead (spell y) h) (calm_ahead (spell y) h b c) fits, f h c);
      }
      by_front (z ∷ front) e g = record {
        front = spell x ++ (z ∷ front);
        whole = whole ∙ ap (λ (w : List Item). spell x ++ w) e ∙ sym (append_assoc (spell x) (z ∷ front) left);
        tree = Pair x s.tree;
        more = s.more;
        begins = ap (λ (w : List Item). spell x ++ w) g ∙ sym (append_assoc (spell x) (z ∷ front) s.more);
        fits = λ h c. (subst (A x) (ap next e ∙ sym (ap (λ (w : List Item). ahead w h) g)) fits, s.fits h c);
      }

  -- what is known of the loop around
  pub record Breaks (s : Node) (v : Bool) (V W : Trees) (u : List Item → Read) : Type 0 where
    pub exact : Exact W u
    pub part : IsPart W V
    pub move : Moves V
    pub short : v ≡ true → Fits V s
    pub breaks : v ≡ true → (l : List Item) (r : Refusal) → u l ≡ Err r → Completed V l (unread_of r)

  module _ (t : LevelTables) (g : Grammar) (ok : IsDecided t g ≡ true) (d : ℕ) (full : IsCompleted calm d t g ≡ true) where
    abbrev pub E : Level → Trees
    E = Nested t.rule

    abbrev pub brief : Level → Node
    brief = brief_of calm t.rule d

    abbrev pub has : Level → Bool
    has = has_brief calm t.rule d

    parts : (every_of (level_completes calm t.rule d) all_levels ≡ true) × (completes calm brief has g Nothing false ≡ true)
    parts = and_parts (every_of (level_completes calm t.rule d) all_levels) (completes calm brief has g Nothing false) full

    pub whole_completes : completes calm brief has g Nothing false ≡ true
    whole_completes = parts.1

    level_at : (l : Level) → (has l ≡ true) × (completes calm brief has (t.rule l) Nothing false ≡ true)
    level_at l = and_parts (has l) (completes calm brief has (t.rule l) Nothing false) (every_level (level_completes calm t.rule d) parts.0 l)

    pub rule_completes : (l : Level) → completes calm brief has (t.rule l) Nothing false ≡ true
    rule_completes l = (level_at l).1

    pub level_fits : (l : Level) → Fits (E l) (brief l)
    level_fits l = brief_fits t.rule d l (level_at l).0

    pub has_fits : (l : Level) → has l ≡ true → Fits (E l) (brief l)
    has_fits l e = level_fits l

    none_moves : Moves IsNone
    none_moves x h i c r = absurd r

    within_moves : (m : ℕ) (l : Level) → Moves (FreeWithin t.rule m l)
    unfolding FreeWithin
    within_moves zero l x h i c r = absurd r
    within_moves (suc m) l x h i c r = moves brief has (FreeWithin t.rule m) (within_moves m) (t.rule l) Nothing false
        (rule_completes l) IsNone none_moves x h i c r

    pub level_moves : (l : Level) → Moves (E l)
    level_moves l x h i c r = (r.0, within_moves r.0 l x h i c r.1)

    abbrev pub good : Grammar → Node → Bool → Bool
    good = completes calm brief has

    abbrev pub calls : Grammar → Node → Bool → Bool
    calls = sure calm brief has

    abbrev pub shortest : Grammar → Node → Node
    shortest = short brief

    pub shortest_fits : (b : Grammar) (s : Node) (v : Bool) → calls b s v ≡ true → (V : Trees) → (v ≡ true → Fits V s) → Fits (FreeIn E b V) (shortest b s)
    shortest_fits = short_fits brief has E has_fits

    pub level_part : (n : ℕ) (l : Level) → IsPart (Within t.rule n l) (E l)
    level_part n l x h r = (n, free_within t g ok n l x h r)

    pub exact_at : (n : ℕ) (b : Grammar) → sane b ≡ true → (V : Trees) (u : List Item → Read) → Exact V u
        → Exact (Is (Within t.rule n) b V) (reads (levels t n) b u)
    exact_at n = grammar_exact (Within t.rule n) (levels t n) (levels_exact t (rule_sane t g ok) n)

    pub freed_at : (n : ℕ) (b : Grammar) (V W : Trees) → IsPart W V → IsPart (Is (Within t.rule n) b W) (FreeIn E b V)
    freed_at n b V W c = freed (Within t.rule n) E (level_part n) b W V c

    pub rounds_exact_at : (n : ℕ) (a : Grammar) → sane (loop a) ≡ true → (k : ℕ) → Exact (rounds k (Is (Within t.rule n) a)) (turns k (reads (levels t n) a))
    rounds_exact_at n a ok' k =
        let P = Within t.rule n in
        let p = levels t n in
        let o = and_parts (sane a) (guarded a) ok' in
        rounds_exact (Is P a) (reads p a) (is_up P P (λ v x h r. r) a) (guarded_same p (level_shortens P p (levels_exact t (rule_sane t g ok) n)) a o.1)
        (exact_at n a o.0) k

    module _ (n : ℕ) (level_completed : (l : Level) (items : List Item) (r : Refusal) → levels t n l items ≡ Err r → Completed (E l) items (unread_of r)) where
      turns_completed : (a : Grammar) → calls a Nothing false ≡ true
          → ((k : ℕ) → ((l : List Item) (r : Refusal) → turns k (reads (levels t n) a) l ≡ Err r → Completed (Loop E a) l (unread_of r))
          → (l : List Item) (r : Refusal) → reads (levels t n) a (turns k (reads (levels t n) a)) l ≡ Err r → Completed (FreeIn E a (Loop E a)) l (unread_of r))
          → (k : ℕ) (l : List Item) (r : Refusal) → turns k (reads (levels t n) a) l ≡ Err r → Completed (Loop E a) l (unread_of r)
      turns_completed a f c zero l r e = at_once (Loop E a) (shortest a Nothing) (loop_fits brief has E has_fits a f) l (unread_of r)
          (ap unread_of (err_is (Unfit l) r e))
      turns_completed a f c (suc k) l r e = completed_map (FreeIn E a (Loop E a)) (Loop E a) (fold E a) l (unread_of r) (c k (turns_completed a f c k) l r e)

      pub completed : (b : Grammar) (s : Node) (v : Bool) → sane b ≡ true → good b s v ≡ true → (V W : Trees) (u : List Item → Read) → Breaks s v V W u
          → (l : List Item) (r : Refusal) → reads (levels t n) b u l ≡ Err r → Completed (FreeIn E b V) l (unread_of r)
      unfolding turning
      completed (token ks) s v o q V W u i l r e = at_once (FreeIn E (token ks) V) (leaf (first_in ks) 0) (λ h c. q) l (unread_of r)
          (ap unread_of (err_is (Unfit l) r (token_fails ks l r e).0))
      completed nothing s v o q V W u i l r e = absurd (ok_no_err (Nothing, l) r e)
      completed (seq a b) s v o q V W u i l r e =
          let m = and_parts (sane a) (sane b) o in
          let j = and_parts (both (good a s v) (good b s v)) (both (calls b s v) (begins_calm calm (spell (shortest b s)))) q in
          let k = and_parts (good a s v) (good b s v) j.0 in
          let f = and_parts (calls b s v) (begins_calm calm (spell (shortest b s))) j.1 in
          let short_b : Fits (FreeIn E b V) (shortest b s) = shortest_fits b s v f.0 V i.short in
          elim (bind_err (reads (levels t n) a u l) (λ x. reads (levels t n) b u x.1 >>= λ y. Ok (Pair x.0 y.0, y.1)) r e) [
            | inl z ↦ first_breaks (FreeIn E a V) (FreeIn E b V) (shortest b s) f.1 short_b l (unread_of r) (completed a s v m.0 k.0 V W u i l r z)
            | inr z ↦
                elim (bind_err (reads (levels t n) b u z.0.1) (λ y. Ok (Pair z.0.0 y.0, y.1)) r z.2) [
                  | inl y ↦
                      let x = (exact_at n a m.0 W u i.exact).sound l z.0.0 z.0.1 z.1 in
                      second_breaks (FreeIn E a V) (FreeIn E b V) (moves brief has E level_moves a s v k.0 V i.move) z.0.0 (shortest b s) l z.0.1
                      (unread_of r) x.0
                      (freed_at n a V W i.part z.0.0 (next z.0.1) x.1) f.1 short_b (completed b s v m.1 k.1 V W u i z.0.1 r y)
                  | inr y ↦ absurd (ok_no_err (Pair z.0.0 y.0.0, y.0.1) r y.2)
                ]
          ]
      completed (choice ks a b) s v o q V W u i l r e =
          let m = and_parts (sane a) (sane b) o in
          let k = and_parts (good a s v) (good b s v) q in
          elim (ok_or_err (passes ks (next l)) (reads (levels t n) a u l) (reads (levels t n) b u l) (Err r) e) [
            | inl z ↦ completed_map (FreeIn E a V) (FreeIn E (choice ks a b) V) (λ x h y. inl y) l (unread_of r) (completed a s v m.0 k.0 V W u i l r z.1)
            | inr z ↦ completed_map (FreeIn E b V) (FreeIn E (choice ks a b) V) (λ x h y. inr y) l (unread_of r) (completed b s v m.1 k.1 V W u i l r z.1)
          ]
      completed (greedy ks a) s v o q V W u i l r e =
          let k = and_parts (good a s v) (spares calm ks) q in
          elim (ok_or_err (passes ks (next l)) (reads (levels t n) a u l) (Ok (Nothing, l)) (Err r) e) [
            | inl z ↦ completed_map (FreeIn E a V) (FreeIn E (greedy ks a) V) (λ x h y. inl y) l (unread_of r) (completed a s v o k.0 V W u i l r z.1)
            | inr z ↦ absurd (ok_no_err (Nothing, l) r z.1)
          ]
      completed (level w) s v o q V W u i l r e = level_completed w l r e
      completed (loop a) s v o q V W u i l r e =
          let m = and_parts (sane a) (guarded a) o in
          let k = and_parts (good a (shortest a Nothing) true) (calls a Nothing false) q in
          let around : (j : ℕ) → ((l : List Item) (r : Refusal) → turns j (reads (levels t n) a) l ≡ Err r → Completed (Loop E a) l (unread_of r))
          → Breaks (shortest a Nothing) true (Loop E a) (rounds j (Is (Within t.rule n) a)) (turns j (reads (levels t n) a)) =
          λ j c. record {
            exact = rounds_exact_at n a o j;
            part = λ x h y. freed_at n (loop a) IsNone IsNone (none_in IsNone) x h (j, y);
            move = moves brief has E level_moves (loop a) s v q V i.move;
            short = λ y. loop_fits brief has E has_fits a k.1;
            breaks = λ y. c;
          } in
          turns_completed a k.1 (λ j c. completed a (shortest a Nothing) true m.0 k.0 (Loop E a) (rounds j (Is (Within t.rule n) a))
          (turns j (reads (levels t n) a)) (around j c)) (suc (length l)) l r e
      completed again s v o q V W u i l r e = i.breaks q l r e

    none_breaks : Breaks Nothing false IsNone IsNone unfit_here
    none_breaks = record { exact = none_exact; part = λ x h r. r; move = none_moves; short = λ e. absurd cc; breaks = λ e. absurd cc }

    level_completed : (n : ℕ) (l : Level) (items : List Item) (r : Refusal) → levels t n l items ≡ Err r → Completed (E l) items (unread_of r)
    unfolding levels
    level_completed zero l items r e =
        let is : items ≡ unread_of r =
        elim (ok_or_err (expects t l (next items)) (Err (Deep items)) (Err (Unfit items)) (Err r) e)
        [ inl f ↦ ap unread_of (err_is (Deep items) r f.1) | inr f ↦ ap unread_of (err_is (Unfit items) r f.1) ] in
        at_once (E l) (brief l) (level_fits l) items (unread_of r) is
    level_completed (suc n) l items r e =
        completed_map (FreeIn E (t.rule l) IsNone) (E l) (nested t.rule l) items (unread_of r)
        (completed n (level_completed n) (t.rule l) Nothing false (rule_sane t g ok l) (rule_completes l) IsNone IsNone unfit_here none_breaks items r e)

    -- What stands before a refused token begins the spelling of a shaped tree.
    pub whole_completed : (n : ℕ) (l : List Item) (r : Refusal) → read t n g l ≡ Err r
        → (front : List Item) × (l ≡ front ++ unread_of r) × (x : Node) × (more : List Item) × IsShaped t g x × (spell x ≡ front ++ more)
    unfolding read
    whole_completed n l r e =
        let s = completed n (level_completed n) g Nothing false (whole_parts t g ok).sound whole_completes IsNone IsNone unfit_here none_breaks l r e in
        (s.front, s.whole, s.tree, s.more, whole_nested t.rule g s.tree None (s.fits None tt), s.begins)
