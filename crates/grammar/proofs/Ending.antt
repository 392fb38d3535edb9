-- Reading does not pass a terminal that stands at the end alone.
use Rattle.std.proofs.Common.{◌∙◌, ◌∷◌, ◌≡◌, [], ℕ, Bool, Err, List, Ok, ap, cond, false, inl, inr, length, refl, subst, suc, sym, true, zero}
use Rattle.std.proofs.lemmas.Bool.{and_parts, not-true}
use Rattle.grammar.proofs.{Exact.bind_err, Exact.err_is, Exact.ok_no_err, Exact.token_fails, LevelsTested.every_level}
use Rattle.grammar.specs.{Deciding.LevelTables, Deciding.all_levels, Deciding.expects, Ending.Has, Ending.IsLast, Ending.ends_in, Ending.lacks}
use Rattle.grammar.specs.{Terminals.every_of, Terminals.one_of, Terminals.passes, declared.terminals.Terminal.Terminal}
use Rattle.grammar.specs.Grammars.{Grammar, Level, again, choice, greedy, level, loop, nothing, seq, token}
use Rattle.grammar.specs.Nodes.{Item, Leaf, Node, Nothing, Pair, next}
use Rattle.grammar.specs.Reading.{◌>>=◌, Deep, Read, Refusal, Unfit, levels, read, reads, then_pair, token_at, turning, turns, unfit_here, unread_of}

module _ (k : Terminal) where
  -- what is left has the terminal
  abbrev pub Kept : Read → Type 0
  Kept (Ok x) = Has k x.1
  Kept (Err r) = Has k (unread_of r)

  abbrev pub Keeps : (List Item → Read) → Type 0
  Keeps p = (l : List Item) → Has k l → Kept (p l)

  kept_cond : (b : Bool) (x y : Read) → Kept x → Kept y → Kept (cond b x y)
  kept_cond true x y h g = h
  kept_cond false x y h g = g

  kept_pair : (a : Node) (r : Read) → Kept r → Kept (r >>= λ y. Ok (Pair a y.0, y.1))
  kept_pair a (Ok y) h = h
  kept_pair a (Err r) h = h

  kept_then : (r : Read) (q : List Item → Read) → Kept r → Keeps q → Kept (then_pair r q)
  kept_then (Ok x) q h g = kept_pair x.0 (q x.1) (g x.1 h)
  kept_then (Err r) q h g = h

  kept_token : (ks : List Terminal) → one_of ks k ≡ false → Keeps (token_at ks)
  kept_token ks e [] h = absurd h
  kept_token ks e (x ∷ l) h = by_test (one_of ks x.kind) refl
    where
      tail : one_of ks x.kind ≡ true → Has k l
      tail t = elim h [ inl i ↦ absurd (let f : one_of ks k ≡ true = ap (one_of ks) (sym i) ∙ t in cc) | inr g ↦ g ]

      by_test : (b : Bool) → one_of ks x.kind ≡ b → Kept (cond b (Ok (Leaf x, l)) (Err (Unfit (x ∷ l))))
      by_test true t = tail t
      by_test false t = h

  kept_turns : (f : (List Item → Read) → List Item → Read) → ((u : List Item → Read) → Keeps u → Keeps (f u)) → (n : ℕ) → Keeps (turns n f)
  kept_turns f c zero l h = h
  kept_turns f c (suc n) l h = c (turns n f) (kept_turns f c n) l h

  module _ (p : Level → List Item → Read) (level_keeps : (v : Level) → Keeps (p v)) where
    keeps : (g : Grammar) → lacks k g ≡ true → (u : List Item → Read) → Keeps u → Keeps (reads p g u)
    unfolding turning
    keeps (token ks) ok u s l h = kept_token ks (not-true (one_of ks k) ok) l h
    keeps nothing ok u s l h = h
    keeps (seq a b) ok u s l h = let o = and_parts (lacks k a) (lacks k b) ok in kept_then (reads p a u l) (reads p b u) (keeps a o.0 u s l h)
        (keeps b o.1 u s)
    keeps (choice ks a b) ok u s l h = let o = and_parts (lacks k a) (lacks k b) ok in kept_cond (passes ks (next l)) (reads p a u l) (reads p b u l)
        (keeps a o.0 u s l h) (keeps b o.1 u s l h)
    keeps (greedy ks a) ok u s l h = kept_cond (passes ks (next l)) (reads p a u l) (Ok (Nothing, l)) (keeps a ok u s l h) h
    keeps (level v) ok u s l h = level_keeps v l h
    keeps (loop a) ok u s l h = kept_turns (reads p a) (keeps a ok) (suc (length l)) l h
    keeps again ok u s l h = s l h

    kept_err : (r : Read) (d : Refusal) → r ≡ Err d → Kept r → Has k (unread_of d)
    kept_err r d e h = subst Kept e h

    last_keeps : (g : Grammar) → ends_in k g ≡ true → (u : List Item → Read) → Keeps u → (l : List Item) (r : Refusal) → Has k l → reads p g u l ≡ Err r
        → Has k (unread_of r)
    last_keeps (token ks) ok u s l r h e = subst (Has k) (ap unread_of (err_is (Unfit l) r (token_fails ks l r e).0)) h
    last_keeps nothing ok u s l r h e = absurd cc
    last_keeps (seq a b) ok u s l r h e =
        let o = and_parts (lacks k a) (ends_in k b) ok in
        elim (bind_err (reads p a u l) (λ x. reads p b u x.1 >>= λ y. Ok (Pair x.0 y.0, y.1)) r e) [
          | inl f ↦ kept_err (reads p a u l) r f (keeps a o.0 u s l h)
          | inr f ↦ elim (bind_err (reads p b u f.0.1) (λ y. Ok (Pair f.0.0 y.0, y.1)) r f.2) [
            | inl g ↦ last_keeps b o.1 u s f.0.1 r (let there : Kept (Ok f.0) = subst Kept f.1 (keeps a o.0 u s l h) in there) g
            | inr g ↦ absurd (ok_no_err (Pair f.0.0 g.0.0, g.0.1) r g.2)
          ]
        ]
    last_keeps (choice ks a b) ok u s l r h e = absurd cc
    last_keeps (greedy ks a) ok u s l r h e = absurd cc
    last_keeps (level v) ok u s l r h e = absurd cc
    last_keeps (loop a) ok u s l r h e = absurd cc
    last_keeps again ok u s l r h e = absurd cc

  unread_keeps : Keeps unfit_here
  unread_keeps l h = h

  module _ (t : LevelTables) (g : Grammar) (ok : IsLast k t g ≡ true) where
    level_keeps : (n : ℕ) (v : Level) → Keeps (levels t n v)
    unfolding levels
    level_keeps zero v l h = kept_cond (expects t v (next l)) (Err (Deep l)) (Err (Unfit l)) h h
    level_keeps (suc n) v l h =
        let o = and_parts (every_of (λ l. lacks k (t.rule l)) all_levels) (ends_in k g) ok in
        keeps (levels t n) (level_keeps n) (t.rule v) (every_level (λ l. lacks k (t.rule l)) o.0 v) unfit_here unread_keeps l h

    -- A refusal stands before the last token or at it.
    pub refused_inside : (n : ℕ) (l : List Item) (r : Refusal) → Has k l → read t n g l ≡ Err r → Has k (unread_of r)
    unfolding read
    refused_inside n l r h e =
        let o = and_parts (every_of (λ l. lacks k (t.rule l)) all_levels) (ends_in k g) ok in
        last_keeps (levels t n) (level_keeps n) g o.1 unfit_here unread_keeps l r h e
