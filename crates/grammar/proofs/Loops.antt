-- What a loop reads: as many rounds as tokens are enough.
use Rattle.std.proofs.Common.{◌<◌, ◌∙◌, ◌∷◌, ◌≡◌, ◌≤◌, [], ℕ, Bool, Err, List, Ok, ap, arith, cond, false, inl, inr, length, refl, suc, sym, true, zero}
use Rattle.std.proofs.lemmas.Bool.{and_parts}
use Rattle.grammar.proofs.Bools.{both_make, either_parts}
use Rattle.grammar.proofs.Exact.{bind_ok, done, ok_is, ok_no_err, ok_or_err}
use Rattle.grammar.specs.{Terminals.one_of, Terminals.passes, declared.terminals.Terminal.Terminal}
use Rattle.grammar.specs.Deciding.{both, closed, either, guarded, linear, solid}
use Rattle.grammar.specs.Grammars.{Grammar, Level, again, choice, greedy, level, loop, nothing, seq, token}
use Rattle.grammar.specs.Nodes.{Item, Leaf, Node, Nothing, Pair, next}
use Rattle.grammar.specs.Reading.{◌>>=◌, Read, Unfit, reads, then_pair, token_at, turning, turns, unfit_here}

-- ---- a reader leaves no more than it was given

abbrev pub Shortens : (List Item → Read) → Type 0
Shortens p = (l : List Item) (x : Node) (rest : List Item) → p l ≡ Ok (x, rest) → length rest ≤ length l

abbrev pub Takes : (List Item → Read) → Type 0
Takes p = (l : List Item) (x : Node) (rest : List Item) → p l ≡ Ok (x, rest) → length rest < length l

pub unread_shortens : (l : List Item) (x : Node) (rest : List Item) → unfit_here l ≡ Ok (x, rest) → length rest ≤ length l
unread_shortens l x rest e = absurd (ok_no_err (x, rest) (Unfit l) (sym e))

token_takes : (ks : List Terminal) (l : List Item) (x : Node) (rest : List Item) → token_at ks l ≡ Ok (x, rest) → length rest < length l
token_takes ks [] x rest e = absurd cc
token_takes ks (y ∷ l) x rest e =
    elim (ok_or_err (one_of ks y.kind) (Ok (Leaf y, l)) (Err (Unfit (y ∷ l))) (Ok (x, rest)) e) [
      | inl h ↦ let end : l ≡ rest = ap (λ (z : Node × List Item). z.1) (ok_is (Leaf y, l) (x, rest) h.1) in omega (arith, ap length end)
      | inr h ↦ absurd (ok_no_err (x, rest) (Unfit (y ∷ l)) (sym h.1))
    ]

-- the parts of a pair that was read
pub record PairRead (p q : List Item → Read) (l rest : List Item) : Type 0 where
  pub first : Node × List Item
  pub second : Node × List Item
  pub first_is : p l ≡ Ok first
  pub second_is : q first.1 ≡ Ok second
  pub rest_is : second.1 ≡ rest

pub pair_read : (p q : List Item → Read) (l : List Item) (x : Node) (rest : List Item) → then_pair (p l) q ≡ Ok (x, rest) → PairRead p q l rest
pair_read p q l x rest e =
    let a = bind_ok (p l) (λ x. q x.1 >>= λ y. Ok (Pair x.0 y.0, y.1)) (x, rest) e in
    let b = bind_ok (q a.0.1) (λ y. Ok (Pair a.0.0 y.0, y.1)) (x, rest) a.2 in
    record {
      first = a.0;
      second = b.0;
      first_is = a.1;
      second_is = b.1;
      rest_is = ap (λ (z : Node × List Item). z.1) (ok_is (Pair a.0.0 b.0.0, b.0.1) (x, rest) b.2);
    }

rest_of : (x y : Node × List Item) → done x ≡ Ok y → x.1 ≡ y.1
rest_of x y e = ap (λ (z : Node × List Item). z.1) (ok_is x y e)

turns_shorten : (f : (List Item → Read) → List Item → Read) → ((u : List Item → Read) → Shortens u → Shortens (f u)) → (k : ℕ) → Shortens (turns k f)
turns_shorten f h zero l x rest e = unread_shortens l x rest e
turns_shorten f h (suc k) l x rest e = h (turns k f) (turns_shorten f h k) l x rest e

module _ (p : Level → List Item → Read) (shortens : (v : Level) → Shortens (p v)) where
  pub no_longer : (g : Grammar) (u : List Item → Read) → Shortens u → Shortens (reads p g u)
  unfolding turning
  no_longer (token ks) u s l x rest e = omega (arith, token_takes ks l x rest e)
  no_longer nothing u s l x rest e = omega (arith, ap length (rest_of (Nothing, l) (x, rest) e))
  no_longer (seq a b) u s l x rest e =
      let r = pair_read (reads p a u) (reads p b u) l x rest e in
      omega (arith, no_longer a u s l r.first.0 r.first.1 r.first_is, no_longer b u s r.first.1 r.second.0 r.second.1 r.second_is, ap length r.rest_is)
  no_longer (choice ks a b) u s l x rest e =
      elim (ok_or_err (passes ks (next l)) (reads p a u l) (reads p b u l) (Ok (x, rest)) e)
      [ inl h ↦ no_longer a u s l x rest h.1 | inr h ↦ no_longer b u s l x rest h.1 ]
  no_longer (greedy ks a) u s l x rest e =
      elim (ok_or_err (passes ks (next l)) (reads p a u l) (Ok (Nothing, l)) (Ok (x, rest)) e) [
        | inl h ↦ no_longer a u s l x rest h.1
        | inr h ↦ omega (arith, ap length (rest_of (Nothing, l) (x, rest) h.1))
      ]
  no_longer (level v) u s l x rest e = shortens v l x rest e
  no_longer (loop a) u s l x rest e = turns_shorten (reads p a) (no_longer a) (suc (length l)) l x rest e
  no_longer again u s l x rest e = s l x rest e

  -- what is solid takes a token
  pub takes : (g : Grammar) (u : List Item → Read) → Shortens u → solid g ≡ true → Takes (reads p g u)
  takes (token ks) u s ok l x rest e = token_takes ks l x rest e
  takes nothing u s ok l x rest e = absurd cc
  takes (seq a b) u s ok l x rest e =
      let r = pair_read (reads p a u) (reads p b u) l x rest e in
      let end = ap length r.rest_is in
      elim (either_parts (solid a) (solid b) ok) [
        | inl h ↦ omega (arith, takes a u s h l r.first.0 r.first.1 r.first_is, no_longer b u s r.first.1 r.second.0 r.second.1 r.second_is, end)
        | inr h ↦ omega (arith, no_longer a u s l r.first.0 r.first.1 r.first_is, takes b u s h r.first.1 r.second.0 r.second.1 r.second_is, end)
      ]
  takes (choice ks a b) u s ok l x rest e =
      let o = and_parts (solid a) (solid b) ok in
      elim (ok_or_err (passes ks (next l)) (reads p a u l) (reads p b u l) (Ok (x, rest)) e)
      [ inl h ↦ takes a u s o.0 l x rest h.1 | inr h ↦ takes b u s o.1 l x rest h.1 ]
  takes (greedy ks a) u s ok l x rest e = absurd cc
  takes (level v) u s ok l x rest e = absurd cc
  takes (loop a) u s ok l x rest e = absurd cc
  takes again u s ok l x rest e = absurd cc

-- ---- what a reader asks of the loop around it

pub then_same : (r : Read) (p q : List Item → Read) → ((x : Node) (m : List Item) → r ≡ Ok (x, m) → p m ≡ q m) → then_pair r p ≡ then_pair r q
then_same (Ok x) p q h = ap (λ (r : Read). r >>= λ y. Ok (Pair x.0 y.0, y.1)) (h x.0 x.1 refl)
then_same (Err r) p q h = refl

pub cond_same : (b : Bool) (x y z w : Read) → x ≡ y → z ≡ w → cond b x z ≡ cond b y w
cond_same true x y z w g h = g
cond_same false x y z w g h = h

module _ (p : Level → List Item → Read) (shortens : (v : Level) → Shortens (p v)) where
  -- nothing, if it does not speak of it
  pub closed_same : (g : Grammar) → closed g ≡ true → (u w : List Item → Read) (l : List Item) → reads p g u l ≡ reads p g w l
  closed_same (token ks) ok u w l = refl
  closed_same nothing ok u w l = refl
  closed_same (seq a b) ok u w l =
      let o = and_parts (closed a) (closed b) ok in
      ap (λ (r : Read). then_pair r (reads p b u)) (closed_same a o.0 u w l) ∙ then_same (reads p a w l) (reads p b u) (reads p b w)
      (λ x m e. closed_same b o.1 u w m)
  closed_same (choice ks a b) ok u w l =
      let o = and_parts (closed a) (closed b) ok in
      cond_same (passes ks (next l)) (reads p a u l) (reads p a w l) (reads p b u l) (reads p b w l) (closed_same a o.0 u w l) (closed_same b o.1 u w l)
  closed_same (greedy ks a) ok u w l = cond_same (passes ks (next l)) (reads p a u l) (reads p a w l) (Ok (Nothing, l)) (Ok (Nothing, l))
      (closed_same a ok u w l) refl
  closed_same (level v) ok u w l = refl
  closed_same (loop a) ok u w l = refl
  closed_same again ok u w l = absurd cc

  pub closed_shortens : (g : Grammar) → closed g ≡ true → (u : List Item → Read) → Shortens (reads p g u)
  closed_shortens g ok u l x rest e = no_longer p shortens g unfit_here unread_shortens l x rest (closed_same g ok unfit_here u l ∙ e)

  pub closed_takes : (g : Grammar) → closed g ≡ true → solid g ≡ true → (u : List Item → Read) → Takes (reads p g u)
  closed_takes g ok s u l x rest e = takes p shortens g unfit_here unread_shortens s l x rest (closed_same g ok unfit_here u l ∙ e)

  -- what it reads of the tokens that are left
  linear_same : (g : Grammar) → linear g ≡ true → (u w : List Item → Read) (l : List Item) → ((m : List Item) → length m ≤ length l → u m ≡ w m)
      → reads p g u l ≡ reads p g w l
  linear_same (token ks) ok u w l h = refl
  linear_same nothing ok u w l h = refl
  linear_same (seq a b) ok u w l h =
      let o = and_parts (closed a) (linear b) ok in
      ap (λ (r : Read). then_pair r (reads p b u)) (closed_same a o.0 u w l)
      ∙ then_same (reads p a w l) (reads p b u) (reads p b w)
      (λ x m e. let le : length m ≤ length l = closed_shortens a o.0 w l x m e in linear_same b o.1 u w m (λ n f. h n (omega (arith, f, le))))
  linear_same (choice ks a b) ok u w l h =
      let o = and_parts (linear a) (linear b) ok in
      cond_same (passes ks (next l)) (reads p a u l) (reads p a w l) (reads p b u l) (reads p b w l) (linear_same a o.0 u w l h) (linear_same b o.1 u w l h)
  linear_same (greedy ks a) ok u w l h = cond_same (passes ks (next l)) (reads p a u l) (reads p a w l) (Ok (Nothing, l)) (Ok (Nothing, l))
      (linear_same a ok u w l h) refl
  linear_same (level v) ok u w l h = refl
  linear_same (loop a) ok u w l h = refl
  linear_same again ok u w l h = h l (omega arith)

  -- and of fewer
  pub guarded_same : (g : Grammar) → guarded g ≡ true → (u w : List Item → Read) (l : List Item) → ((m : List Item) → length m < length l → u m ≡ w m)
      → reads p g u l ≡ reads p g w l
  guarded_same (token ks) ok u w l h = refl
  guarded_same nothing ok u w l h = refl
  guarded_same (seq a b) ok u w l h =
      let o = and_parts (closed a) (either (both (solid a) (linear b)) (guarded b)) ok in
      ap (λ (r : Read). then_pair r (reads p b u)) (closed_same a o.0 u w l)
      ∙ then_same (reads p a w l) (reads p b u) (reads p b w) (λ x m e. elim (either_parts (both (solid a) (linear b)) (guarded b) o.1) [
        | inl s ↦
            let t = and_parts (solid a) (linear b) s in
            let lt : length m < length l = closed_takes a o.0 t.0 w l x m e in
            linear_same b t.1 u w m (λ n f. h n (omega (arith, f, lt)))
        | inr s ↦
            let le : length m ≤ length l = closed_shortens a o.0 w l x m e in
            guarded_same b s u w m (λ n f. h n (omega (arith, f, le)))
      ])
  guarded_same (choice ks a b) ok u w l h =
      let o = and_parts (guarded a) (guarded b) ok in
      cond_same (passes ks (next l)) (reads p a u l) (reads p a w l) (reads p b u l) (reads p b w l) (guarded_same a o.0 u w l h) (guarded_same b o.1 u w l h)
  guarded_same (greedy ks a) ok u w l h = cond_same (passes ks (next l)) (reads p a u l) (reads p a w l) (Ok (Nothing, l)) (Ok (Nothing, l))
      (guarded_same a ok u w l h) refl
  guarded_same (level v) ok u w l h = refl
  guarded_same (loop a) ok u w l h = refl
  guarded_same again ok u w l h = absurd cc

pub closed_linear : (g : Grammar) → closed g ≡ true → linear g ≡ true
closed_linear (token ks) ok = refl
closed_linear nothing ok = refl
closed_linear (seq a b) ok = let o = and_parts (closed a) (closed b) ok in both_make (closed a) (linear b) o.0 (closed_linear b o.1)
closed_linear (choice ks a b) ok = let o = and_parts (closed a) (closed b) ok in both_make (linear a) (linear b) (closed_linear a o.0) (closed_linear b o.1)
closed_linear (greedy ks a) ok = closed_linear a ok
closed_linear (level v) ok = refl
closed_linear (loop a) ok = refl
closed_linear again ok = absurd cc

-- ---- enough rounds

abbrev pub Guards : ((List Item → Read) → List Item → Read) → Type 0
Guards f = (u w : List Item → Read) (l : List Item) → ((m : List Item) → length m < length l → u m ≡ w m) → f u l ≡ f w l

pub enough : (f : (List Item → Read) → List Item → Read) → Guards f → (k j : ℕ) (l : List Item) → length l < k → length l < j → turns k f l ≡ turns j f l
enough f g zero j l a b = absurd (omega arith)
enough f g (suc k) zero l a b = absurd (omega arith)
enough f g (suc k) (suc j) l a b = g (turns k f) (turns j f) l (λ m lt. enough f g k j m (omega arith) (omega arith))

-- a loop reads its first round and then goes on as the loop
pub turning_again : (f : (List Item → Read) → List Item → Read) → Guards f → (l : List Item) → turning f l ≡ f (turning f) l
unfolding turning
turning_again f g l = g (turns (length l) f) (λ m. turns (suc (length m)) f m) l (λ m lt. enough f g (length l) (suc (length m)) m (omega arith) (omega arith))
