-- A tree of whatever nesting is read, or reading comes too deep in it.
use Rattle.std.proofs.Common.{◌++◌, ◌∙◌, ◌∷◌, ◌≡◌, ◌⊎◌, [], ℕ, Bool, Err, List, None, Ok, Option, ap, append_assoc, cond, false, inl, inr, refl, subst, suc}
use Rattle.std.proofs.{Common.sym, Common.true, Common.zero, lemmas.Bool.and_parts}
use Rattle.grammar.proofs.{Bools.both_make, Bools.either_left, Bools.either_right, Exact.ahead_append, Exact.failed, Exact.nothing_exact, Exact.token_exact}
use Rattle.grammar.proofs.{Loops.Guards, Loops.guarded_same, Loops.turning_again, Wholes.level_shortens, Wholes.levels_exact}
use Rattle.grammar.proofs.Decided.{Allows, Begun, Starts, Tested, none_begun, none_tested, tested}
use Rattle.grammar.proofs.LevelsTested.{free_begun, level_parts, rule_sane, whole_parts}
use Rattle.grammar.specs.{Nesting.IsShaped, Nesting.Nested, Nesting.Trees, Terminals.passes, Tested.Is, Tested.Within, declared.terminals.Terminal.Terminal}
use Rattle.grammar.specs.Deciding.{IsDecided, LevelTables, both, expects, guarded, none, sane}
use Rattle.grammar.specs.Grammars.{FreeWithin, Grammar, IsNone, Level, again, choice, greedy, level, loop, nothing, rounds, seq, token}
use Rattle.grammar.specs.Nodes.{Item, Leaf, Node, Nothing, Pair, next, spell}
use Rattle.grammar.specs.Reading.{◌>>=◌, Deep, Read, levels, read, reads, then_pair, turning, unfit_here}

-- reading comes too deep in the tree, after a front of its tokens
abbrev pub DeepIn : (List Item → Read) → Node → List Item → Type 0
DeepIn p x rest = (front : List Item) × (back : List Item) × (spell x ≡ front ++ back) × (p (spell x ++ rest) ≡ Err (Deep (back ++ rest)))

abbrev pub Goes : (List Item → Read) → Node → List Item → Type 0
Goes p x rest = (p (spell x ++ rest) ≡ Ok (x, rest)) ⊎ DeepIn p x rest

abbrev pub AllGo : Trees → (List Item → Read) → Type 0
AllGo V p = (x : Node) (rest : List Item) → V x (next rest) → Goes p x rest

unfoldable pub first_deep : (p q : List Item → Read) (a b : Node) (rest : List Item) → DeepIn p a (spell b ++ rest)
    → DeepIn (λ l. then_pair (p l) q) (Pair a b) rest
first_deep p q a b rest d = (
  d.0,
  d.1 ++ spell b,
  ap (λ (l : List Item). l ++ spell b) d.2 ∙ append_assoc d.0 d.1 (spell b),
  ap (λ (l : List Item). then_pair (p l) q) (append_assoc (spell a) (spell b) rest) ∙ ap (λ (r : Read). then_pair r q) d.3 ∙ ap
      (λ (l : List Item). failed (Deep l)) (sym (append_assoc d.1 (spell b) rest)),
)

unfoldable pub second_deep : (p q : List Item → Read) (a b : Node) (rest : List Item) → p (spell a ++ (spell b ++ rest)) ≡ Ok (a, spell b ++ rest)
    → DeepIn q b rest → DeepIn (λ l. then_pair (p l) q) (Pair a b) rest
second_deep p q a b rest e d = (
  spell a ++ d.0,
  d.1,
  ap (λ (l : List Item). spell a ++ l) d.2 ∙ sym (append_assoc (spell a) d.0 d.1),
  ap (λ (l : List Item). then_pair (p l) q) (append_assoc (spell a) (spell b) rest) ∙ ap (λ (r : Read). then_pair r q) e ∙ ap
      (λ (r : Read). r >>= λ y. Ok (Pair a y.0, y.1)) d.3,
)

both_read : (p q : List Item → Read) (a b : Node) (rest : List Item) → p (spell a ++ (spell b ++ rest)) ≡ Ok (a, spell b ++ rest)
    → q (spell b ++ rest) ≡ Ok (b, rest) → then_pair (p ((spell a ++ spell b) ++ rest)) q ≡ Ok (Pair a b, rest)
both_read p q a b rest e f = ap (λ (l : List Item). then_pair (p l) q) (append_assoc (spell a) (spell b) rest) ∙ ap (λ (r : Read). then_pair r q) e ∙ ap
    (λ (r : Read). r >>= λ y. Ok (Pair a y.0, y.1)) f

pair_goes : (p q : List Item → Read) (a b : Node) (rest : List Item) → Goes p a (spell b ++ rest) → Goes q b rest
    → Goes (λ l. then_pair (p l) q) (Pair a b) rest
pair_goes p q a b rest f g =
    elim f [
      | inl e ↦ elim g [ inl e' ↦ inl (both_read p q a b rest e e') | inr d ↦ inr (second_deep p q a b rest e d) ]
      | inr d ↦ inr (first_deep p q a b rest d)
    ]

-- where the next token leads
led : (b : Bool) (p q : List Item → Read) (ks : List Terminal) (x : Node) (rest : List Item) → passes ks (next (spell x ++ rest)) ≡ b → Goes (cond b p q) x rest
    → Goes (λ l. cond (passes ks (next l)) (p l) (q l)) x rest
led true p q ks x rest e g =
    let same : cond (passes ks (next (spell x ++ rest))) (p (spell x ++ rest)) (q (spell x ++ rest)) ≡ p (spell x ++ rest) = rw e refl in
    elim g [ inl h ↦ inl (same ∙ h) | inr d ↦ inr (d.0, d.1, d.2, same ∙ d.3) ]
led false p q ks x rest e g =
    let same : cond (passes ks (next (spell x ++ rest))) (p (spell x ++ rest)) (q (spell x ++ rest)) ≡ q (spell x ++ rest) = rw e refl in
    elim g [ inl h ↦ inl (same ∙ h) | inr d ↦ inr (d.0, d.1, d.2, same ∙ d.3) ]

-- a loop that reads a round and goes on
same_goes : (p q : List Item → Read) → ((l : List Item) → q l ≡ p l) → (x : Node) (rest : List Item) → Goes p x rest → Goes q x rest
same_goes p q e x rest g = elim g [ inl h ↦ inl (e (spell x ++ rest) ∙ h) | inr d ↦ inr (d.0, d.1, d.2, e (spell x ++ rest) ∙ d.3) ]

loop_goes : (F : Trees → Trees) (f : (List Item → Read) → List Item → Read) → Guards f → ((V : Trees) → AllGo V (turning f) → AllGo (F V) (f (turning f)))
    → (k : ℕ) → AllGo (rounds k F) (turning f)
loop_goes F f guards body zero x rest h = absurd h
loop_goes F f guards body (suc k) x rest h = same_goes (f (turning f)) (turning f) (turning_again f guards) x rest
    (body (rounds k F) (loop_goes F f guards body k) x rest h)

module _ (t : LevelTables) (g : Grammar) (ok : IsDecided t g ≡ true) where
  -- a tree at whatever nesting, in front of what may follow it
  abbrev pub Placed : Level → Trees
  Placed l x h = Nested t.rule l x h × Allows (t.follow_of l) h

  pub nested_begun : (l : Level) → Begun (t.first_of l) (t.nullable_of l) (Nested t.rule l)
  nested_begun l x h r = free_begun t g ok r.0 l x h r.1

  pub nested_placed : (l : Level) → Tested (t.follow_of l) (Nested t.rule l) (Placed l)
  nested_placed l x h al r = (r, al)

  -- a placed tree begins where its level is expected
  expected_at : (v : Level) (l rest : List Item) → Starts (t.first_of v) (t.nullable_of v) l → Allows (t.follow_of v) (next rest)
      → expects t v (next (l ++ rest)) ≡ true
  expected_at v [] [] s al = s
  expected_at v [] (x ∷ rest) s al = either_right (t.first_of v x.kind) (both (t.nullable_of v) (t.follow_of v x.kind))
      (both_make (t.nullable_of v) (t.follow_of v x.kind) s al)
  expected_at v (x ∷ l) rest s al = either_left (t.first_of v x.kind) (both (t.nullable_of v) (t.follow_of v x.kind)) s

  pub expected : (v : Level) (x : Node) (rest : List Item) → Nested t.rule v x (next rest) → Allows (t.follow_of v) (next rest)
      → expects t v (next (spell x ++ rest)) ≡ true
  expected v x rest h al = expected_at v (spell x) rest (nested_begun v x (next rest) h) al

  pub placed_rule : (v : Level) (x : Node) (h : Option Terminal) → Placed v x h → Is Placed (t.rule v) IsNone x h
  unfolding FreeWithin
  placed_rule v x h r = by_nesting r.0.0 r.0.1
    where
      by_nesting : (m : ℕ) → FreeWithin t.rule m v x h → Is Placed (t.rule v) IsNone x h
      by_nesting zero f = absurd f
      by_nesting (suc m) f =
          tested t (FreeWithin t.rule m) Placed (free_begun t g ok m) (λ w y i al s. ((m, s), al)) (t.rule v) none false none (t.follow_of v)
          (level_parts t g ok v).decided IsNone IsNone none_begun none_tested x h r.1 f

  module _ (n : ℕ) (level_goes : (v : Level) → AllGo (Placed v) (levels t n v)) where
    pub goes : (b : Grammar) → sane b ≡ true → (V : Trees) (u : List Item → Read) → AllGo V u → AllGo (Is Placed b V) (reads (levels t n) b u)
    goes (token ks) o V u s x rest h = inl ((token_exact ks).again x rest h)
    goes nothing o V u s x rest h = inl (nothing_exact.again x rest h)
    goes (seq a b) o V u s (Leaf item) rest h = absurd h
    goes (seq a b) o V u s Nothing rest h = absurd h
    goes (seq a b) o V u s (Pair x y) rest h =
        let p = and_parts (sane a) (sane b) o in
        pair_goes (reads (levels t n) a u) (reads (levels t n) b u) x y rest
        (goes a p.0 V u s x (spell y ++ rest) (subst (Is Placed a V x) (sym (ahead_append (spell y) rest None)) h.0)) (goes b p.1 V u s y rest h.1)
    goes (choice ks a b) o V u s x rest h =
        let p = and_parts (sane a) (sane b) o in
        elim h [
          | inl q ↦ led true (reads (levels t n) a u) (reads (levels t n) b u) ks x rest
              (subst (λ (j : Option Terminal). passes ks j ≡ true) (sym (ahead_append (spell x) rest None)) q.0) (goes a p.0 V u s x rest q.1)
          | inr q ↦ led false (reads (levels t n) a u) (reads (levels t n) b u) ks x rest
              (subst (λ (j : Option Terminal). passes ks j ≡ false) (sym (ahead_append (spell x) rest None)) q.0) (goes b p.1 V u s x rest q.1)
        ]
    goes (greedy ks a) o V u s x rest h =
        elim h [
          | inl q ↦ led true (reads (levels t n) a u) (λ l. Ok (Nothing, l)) ks x rest
              (subst (λ (j : Option Terminal). passes ks j ≡ true) (sym (ahead_append (spell x) rest None)) q.0) (goes a o V u s x rest q.1)
          | inr q ↦ led false (reads (levels t n) a u) (λ l. Ok (Nothing, l)) ks x rest
              (subst (λ (j : Option Terminal). passes ks j ≡ false) (sym (ahead_append (spell x) rest None)) q.0) (inl (nothing_exact.again x rest q.1))
        ]
    goes (level v) o V u s x rest h = level_goes v x rest h
    goes (loop a) o V u s x rest h =
        let p = and_parts (sane a) (guarded a) o in
        let guards = guarded_same (levels t n) (level_shortens (Within t.rule n) (levels t n) (levels_exact t (rule_sane t g ok) n)) a p.1 in
        loop_goes (Is Placed a) (reads (levels t n) a) guards (λ W r. goes a p.0 W (turning (reads (levels t n) a)) r) h.0 x rest h.1
    goes again o V u s x rest h = s x rest h

  none_goes : AllGo IsNone unfit_here
  none_goes x rest h = absurd h

  pub level_goes : (n : ℕ) (v : Level) → AllGo (Placed v) (levels t n v)
  unfolding levels
  level_goes zero v x rest h = let e : expects t v (next (spell x ++ rest)) ≡ true = expected v x rest h.0 h.1 in inr ([], spell x, refl, rw e refl)
  level_goes (suc n) v x rest h = goes n (level_goes n) (t.rule v) (rule_sane t g ok v) IsNone unfit_here none_goes x rest (placed_rule v x (next rest) h)

  pub shaped_placed : (x : Node) → IsShaped t g x → Is Placed g IsNone x None
  shaped_placed x s = tested t (FreeWithin t.rule s.0) Placed (free_begun t g ok s.0) (λ w y i al r. ((s.0, r), al)) g none false none none
      (whole_parts t g ok).decided IsNone IsNone none_begun none_tested x None tt s.1

  pub shaped_goes : (n : ℕ) (x : Node) → IsShaped t g x → Goes (read t n g) x []
  unfolding read
  shaped_goes n x s = goes n (level_goes n) g (whole_parts t g ok).sound IsNone unfit_here none_goes x [] (shaped_placed x s)
