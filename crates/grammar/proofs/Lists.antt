-- Reading one part after the other, as a loop of a program does.
use Rattle.std.proofs.Common.{if◌then◌else◌, ◌++◌, ◌∙◌, ◌∷◌, ◌≡◌, [], ℕ, Bool, Err, List, Ok, ap, cond, false, inl, inr, refl, sym, true}
use Rattle.grammar.proofs.{Bools.by_test, Wholes.level_shortens, Wholes.levels_exact}
use Rattle.grammar.proofs.Exact.{bind_err, bind_ok, done, ok_is, ok_no_err}
use Rattle.grammar.proofs.Loops.{Guards, closed_linear, closed_same, cond_same, guarded_same, then_same, turning_again}
use Rattle.grammar.specs.{Terminals.is, Terminals.passes, Tested.Within, declared.terminals.Terminal.Terminal}
use Rattle.grammar.specs.Deciding.{LevelTables, closed, guarded, sane, solid}
use Rattle.grammar.specs.Grammars.{Grammar, Level, again, choice, many, nothing, seq, series, word}
use Rattle.grammar.specs.Nodes.{Item, Leaf, Node, Nothing, Pair, SeriesPart, chain, next, row, second}
use Rattle.grammar.specs.Reading.{◌>>=◌, Read, Refusal, levels, read, reads, then_pair, token_at, turning, unfit_here}

-- what may be repeated in a loop: it does not speak of the loop around it, and takes a token
pub record Repeats (g : Grammar) : Type 0 where
  pub is_closed : closed g ≡ true
  pub is_solid : solid g ≡ true

abbrev pub prepend : List Node → Node → Node
prepend [] x = x
prepend (n ∷ ns) x = Pair n (prepend ns x)

-- what was read before, and what is still read
abbrev pub with_front : List Node → Read → Read
with_front front r = r >>= λ x. Ok (prepend front x.0, x.1)

abbrev pub with_steps : List SeriesPart → Read → Read
with_steps front r = r >>= λ x. Ok (chain front x.0, x.1)

prepend_row : (front : List Node) → prepend front Nothing ≡ row front
prepend_row [] = refl
prepend_row (n ∷ ns) = ap (Pair n) (prepend_row ns)

prepend_one : (front : List Node) (x y : Node) → prepend front (Pair x y) ≡ prepend (front ++ x ∷ []) y
prepend_one [] x y = refl
prepend_one (n ∷ ns) x y = ap (Pair n) (prepend_one ns x y)

front_one : (front : List Node) (x : Node) (r : Read) → with_front front (r >>= λ y. Ok (Pair x y.0, y.1)) ≡ with_front (front ++ x ∷ []) r
front_one front x (Ok y) = ap (λ (z : Node). Ok (z, y.1)) (prepend_one front x y.0)
front_one front x (Err r) = refl

chain_one : (front : List SeriesPart) (x : SeriesPart) (y : Node) → chain front (Pair x.separator (Pair x.part y)) ≡ chain (front ++ x ∷ []) y
chain_one [] x y = refl
chain_one (n ∷ ns) x y = ap (λ (z : Node). Pair n.separator (Pair n.part z)) (chain_one ns x y)

step_one : (front : List SeriesPart) (x : SeriesPart) (r : Read)
    → with_steps front ((r >>= λ y. Ok (Pair x.part y.0, y.1)) >>= λ y. Ok (Pair x.separator y.0, y.1))
    ≡ with_steps (front ++ x ∷ []) r
step_one front x (Ok y) = ap (λ (z : Node). Ok (z, y.1)) (chain_one front x y.0)
step_one front x (Err r) = refl

module _ (t : LevelTables) (sane_rule : (l : Level) → sane (t.rule l) ≡ true) (n : ℕ) where
  closed_read : (g : Grammar) → closed g ≡ true → (u : List Item → Read) (l : List Item) → reads (levels t n) g u l ≡ read t n g l
  unfolding read
  closed_read g ok u l = closed_same (levels t n) (level_shortens (Within t.rule n) (levels t n) (levels_exact t sane_rule n)) g ok u unfit_here l

  body_guards : (g : Grammar) → guarded g ≡ true → Guards (reads (levels t n) g)
  body_guards g ok = guarded_same (levels t n) (level_shortens (Within t.rule n) (levels t n) (levels_exact t sane_rule n)) g ok

  -- ---- parts as often as a token leads to one

  module _ (ks : List Terminal) (g : Grammar) (c : closed g ≡ true) (s : solid g ≡ true) where
    many_guarded : guarded (choice ks (seq g again) nothing) ≡ true
    many_guarded = rw (c, s) refl

    pub many_read : (l : List Item) → read t n (many ks g) l ≡ cond (passes ks (next l)) (then_pair (read t n g l) (read t n (many ks g))) (Ok (Nothing, l))
    unfolding read
    many_read l =
        let body = choice ks (seq g again) nothing in
        let whole = turning (reads (levels t n) body) in
        turning_again (reads (levels t n) body) (body_guards body many_guarded) l
        ∙ cond_same (passes ks (next l)) (then_pair (reads (levels t n) g whole l) whole) (then_pair (reads (levels t n) g unfit_here l) whole)
        (Ok (Nothing, l))
        (Ok (Nothing, l))
        (ap (λ (r : Read). then_pair r whole) (closed_read g c whole l)) refl

    pub goes_on : (front : List Node) (l : List Item) (x : Node) (rest : List Item) (total : Read) → passes ks (next l) ≡ true → read t n g l ≡ Ok (x, rest)
        → with_front front (read t n (many ks g) l) ≡ total → with_front (front ++ x ∷ []) (read t n (many ks g) rest) ≡ total
    goes_on front l x rest total h e so_far =
        let turn : read t n (many ks g) l ≡ then_pair (Ok (x, rest)) (read t n (many ks g)) = many_read l ∙ rw (h, e) refl in
        sym (front_one front x (read t n (many ks g) rest)) ∙ ap (with_front front) (sym turn) ∙ so_far

    pub stops : (front : List Node) (l : List Item) (r : Refusal) (total : Read) → passes ks (next l) ≡ true → read t n g l ≡ Err r
        → with_front front (read t n (many ks g) l) ≡ total → total ≡ Err r
    stops front l r total h e so_far =
        let turn : read t n (many ks g) l ≡ Err r = many_read l ∙ rw (h, e) refl in
        sym so_far ∙ ap (with_front front) turn

    pub is_done : (front : List Node) (l : List Item) (total : Read) → passes ks (next l) ≡ false → with_front front (read t n (many ks g) l) ≡ total
        → total ≡ Ok (row front, l)
    is_done front l total h so_far =
        let turn : read t n (many ks g) l ≡ Ok (Nothing, l) = many_read l ∙ rw h refl in
        sym so_far ∙ ap (with_front front) turn ∙ ap (λ (z : Node). Ok (z, l)) (prepend_row front)

  -- ---- parts after separators, and an end

  module _ (separator : Terminal) (ks : List Terminal) (g z : Grammar) (c : closed g ≡ true) (d : closed z ≡ true) where
    abbrev body : Grammar
    body = choice (separator ∷ []) (seq (word separator) (choice ks (seq g again) z)) nothing

    series_guarded : guarded body ≡ true
    series_guarded = rw (c, closed_linear z d) refl

    -- what stands after a separator
    pub behind : List Item → Read
    behind m = cond (passes ks (next m)) (then_pair (read t n g m) (read t n (series separator ks g z))) (read t n z m)

    pub series_read : (l : List Item) → read t n (series separator ks g z) l ≡ cond (passes (separator ∷ []) (next l))
        (then_pair (token_at (separator ∷ []) l) behind) (Ok (Nothing, l))
    unfolding read behind
    series_read l =
        let whole = turning (reads (levels t n) body) in
        turning_again (reads (levels t n) body) (body_guards body series_guarded) l
        ∙ cond_same (passes (separator ∷ []) (next l)) (then_pair (token_at (separator ∷ []) l) (reads (levels t n) (choice ks (seq g again) z) whole))
        (then_pair (token_at (separator ∷ []) l) behind) (Ok (Nothing, l)) (Ok (Nothing, l))
        (then_same (token_at (separator ∷ []) l) (reads (levels t n) (choice ks (seq g again) z) whole) behind
        (λ x m same. cond_same (passes ks (next m)) (then_pair (reads (levels t n) g whole m) whole) (then_pair (reads (levels t n) g unfit_here m) whole)
        (reads (levels t n) z whole m) (reads (levels t n) z unfit_here m)
        (ap (λ (r : Read). then_pair r whole) (closed_read g c whole m)) (closed_read z d whole m))) refl

    -- whether a separator comes, and after it what begins a part
    abbrev pub goes_further : List Item → Bool
    goes_further l = if passes (separator ∷ []) (next l) then passes ks (second l) else false

    abbrev pub step_rule : Grammar
    step_rule = seq (word separator) g

    -- a separator and the end after it, or nothing
    abbrev pub end_rule : Grammar
    end_rule = choice (separator ∷ []) (seq (word separator) z) nothing

    both_true : (a b : Bool) → (if a then b else false) ≡ true → (a ≡ true) × (b ≡ true)
    both_true true b e = (refl, e)
    both_true false b e = absurd cc

    separator_there : (l : List Item) → passes (separator ∷ []) (next l) ≡ true
        → (m : List Item) × (s : Node) × (token_at (separator ∷ []) l ≡ Ok (s, m)) × (second l ≡ next m)
    separator_there [] h = absurd cc
    separator_there (x ∷ l) h = let e : is separator x.kind ≡ true = h in (l, Leaf x, rw e refl, refl)

    separate : Node → Node × List Item → Read
    separate s y = Ok (Pair s y.0, y.1)

    pair_is : (a b c d : Node) (l m : List Item) → done (Pair a b, l) ≡ done (Pair c d, m) → (a ≡ c) × (b ≡ d) × (l ≡ m)
    pair_is a b c d l m e =
        let p = ok_is (Pair a b, l) (Pair c d, m) e in
        let n : Pair a b ≡ Pair c d = ap (λ (w : Node × List Item). w.0) p in
        (cc, cc, ap (λ (w : Node × List Item). w.1) p)

    led : (l : List Item) → passes (separator ∷ []) (next l) ≡ true → (x : Node × List Item) → token_at (separator ∷ []) l ≡ Ok x
        → cond (passes (separator ∷ []) (next l)) (then_pair (token_at (separator ∷ []) l) behind) (Ok (Nothing, l)) ≡ then_pair (Ok x) behind
    led l h x e = ap (λ (b : Bool). cond b (then_pair (token_at (separator ∷ []) l) behind) (Ok (Nothing, l))) h ∙ ap (λ (r : Read). then_pair r behind) e

    led_part : (m : List Item) → passes ks (next m) ≡ true → (r : Read) → read t n g m ≡ r → behind m ≡ then_pair r (read t n (series separator ks g z))
    unfolding behind
    led_part m h r e = ap (λ (b : Bool). cond b (then_pair (read t n g m) (read t n (series separator ks g z))) (read t n z m)) h ∙ ap
        (λ (r : Read). then_pair r (read t n (series separator ks g z))) e

    pub steps_on : (front : List SeriesPart) (l : List Item) (x : SeriesPart) (rest : List Item) (total : Read) → goes_further l ≡ true
        → read t n step_rule l ≡ Ok (Pair x.separator x.part, rest)
        → with_steps front (read t n (series separator ks g z) l) ≡ total → with_steps (front ++ x ∷ []) (read t n (series separator ks g z) rest) ≡ total
    unfolding behind read
    steps_on front l x rest total h e so_far =
        let b = both_true (passes (separator ∷ []) (next l)) (passes ks (second l)) h in
        let s = separator_there l b.0 in
        let m = s.0 in
        let at : token_at (separator ∷ []) l ≡ Ok (s.1, m) = s.2 in
        let inner : (read t n g m >>= λ y. Ok (Pair s.1 y.0, y.1)) ≡ Ok (Pair x.separator x.part, rest) =
        sym (ap (λ (r : Read). then_pair r (read t n g)) at) ∙ e in
        let y = bind_ok (read t n g m) (λ y. Ok (Pair s.1 y.0, y.1)) (Pair x.separator x.part, rest) inner in
        let same = pair_is s.1 y.0.0 x.separator x.part y.0.1 rest y.2 in
        let part : read t n g m ≡ Ok (x.part, rest) = y.1 ∙ ap (λ (w : Node). Ok (w, y.0.1)) same.1 ∙ ap (λ (w : List Item). Ok (x.part, w)) same.2 in
        let sep : token_at (separator ∷ []) l ≡ Ok (x.separator, m) = at ∙ ap (λ (w : Node). Ok (w, m)) same.0 in
        let leads : passes ks (next m) ≡ true = ap (passes ks) (sym s.3) ∙ b.1 in
        let turn : read t n (series separator ks g z) l ≡ then_pair (Ok (x.separator, m)) behind = series_read l ∙ led l b.0 (x.separator, m) sep in
        let behind_is : behind m ≡ then_pair (Ok (x.part, rest)) (read t n (series separator ks g z)) = led_part m leads (Ok (x.part, rest)) part in
        sym (step_one front x (read t n (series separator ks g z) rest))
        ∙ sym (ap (with_steps front) (turn ∙ ap (λ (r : Read). r >>= λ y. Ok (Pair x.separator y.0, y.1)) behind_is)) ∙ so_far

    pub steps_stop : (front : List SeriesPart) (l : List Item) (r : Refusal) (total : Read) → goes_further l ≡ true → read t n step_rule l ≡ Err r
        → with_steps front (read t n (series separator ks g z) l) ≡ total → total ≡ Err r
    unfolding behind read
    steps_stop front l r total h e so_far =
        let b = both_true (passes (separator ∷ []) (next l)) (passes ks (second l)) h in
        let s = separator_there l b.0 in
        let m = s.0 in
        let at : token_at (separator ∷ []) l ≡ Ok (s.1, m) = s.2 in
        let inner : (read t n g m >>= λ y. Ok (Pair s.1 y.0, y.1)) ≡ Err r = sym (ap (λ (r : Read). then_pair r (read t n g)) at) ∙ e in
        let part : read t n g m ≡ Err r = elim (bind_err (read t n g m) (λ y. Ok (Pair s.1 y.0, y.1)) r inner)
        [ inl f ↦ f | inr f ↦ absurd (ok_no_err (Pair s.1 f.0.0, f.0.1) r f.2) ] in
        let leads : passes ks (next m) ≡ true = ap (passes ks) (sym s.3) ∙ b.1 in
        let turn : read t n (series separator ks g z) l ≡ then_pair (Ok (s.1, m)) behind = series_read l ∙ led l b.0 (s.1, m) at in
        let behind_is : behind m ≡ Err r = led_part m leads (Err r) part in
        sym so_far ∙ ap (with_steps front) (turn ∙ ap (λ (r : Read). r >>= λ y. Ok (Pair s.1 y.0, y.1)) behind_is)

    -- where no further part comes, the end is read
    series_ends : (l : List Item) → goes_further l ≡ false → read t n (series separator ks g z) l ≡ read t n end_rule l
    unfolding behind read
    series_ends l h = elim (by_test (passes (separator ∷ []) (next l))) [
      | inl a ↦
          let s = separator_there l a in
          let m = s.0 in
          let at : token_at (separator ∷ []) l ≡ Ok (s.1, m) = s.2 in
          let leads : passes ks (next m) ≡ false = ap (passes ks) (sym s.3) ∙ sym (ap (λ (b : Bool). if b then passes ks (second l) else false) a) ∙ h in
          let left : read t n (series separator ks g z) l ≡ then_pair (Ok (s.1, m)) behind = series_read l ∙ rw (a, at) refl in
          let right : read t n end_rule l ≡ then_pair (Ok (s.1, m)) (read t n z) = rw (a, at) refl in
          let behind_is : behind m ≡ read t n z m = rw leads refl in
          left ∙ ap (λ (r : Read). r >>= λ y. Ok (Pair s.1 y.0, y.1)) behind_is ∙ sym right
      | inr a ↦
          let left : read t n (series separator ks g z) l ≡ Ok (Nothing, l) = series_read l ∙ rw a refl in
          let right : read t n end_rule l ≡ Ok (Nothing, l) = rw a refl in
          left ∙ sym right
    ]

    pub steps_done : (front : List SeriesPart) (l : List Item) (end : Node) (rest : List Item) (total : Read) → goes_further l ≡ false
        → read t n end_rule l ≡ Ok (end, rest)
        → with_steps front (read t n (series separator ks g z) l) ≡ total → total ≡ Ok (chain front end, rest)
    steps_done front l end rest total h e so_far = sym so_far ∙ ap (with_steps front) (series_ends l h ∙ e)

    pub steps_break : (front : List SeriesPart) (l : List Item) (r : Refusal) (total : Read) → goes_further l ≡ false → read t n end_rule l ≡ Err r
        → with_steps front (read t n (series separator ks g z) l) ≡ total → total ≡ Err r
    steps_break front l r total h e so_far = sym so_far ∙ ap (with_steps front) (series_ends l h ∙ e)
