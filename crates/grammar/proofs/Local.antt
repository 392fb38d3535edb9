-- A refusal depends on the tokens up to the refused one alone.
use Rattle.std.proofs.Common.{◌++◌, ◌+◌, ◌∙◌, ◌∷◌, ◌≡◌, [], ℕ, Err, List, Ok, Option, ap, append_assoc, arith, cond, false, inl, inr, length, refl, subst, suc}
use Rattle.std.proofs.{Common.sym, Common.true, Common.zero, lemmas.Bool.and_parts, lemmas.List.append_cancel_right}
use Rattle.grammar.proofs.{Larger.is_up, Loops.Guards, Loops.enough, Loops.guarded_same}
use Rattle.grammar.proofs.Exact.{Exact, bind_err, err_is, failed, none_exact, ok_no_err, ok_or_err, same_next, token_fails}
use Rattle.grammar.proofs.Wholes.{grammar_exact, level_shortens, levels_exact, rounds_exact}
use Rattle.grammar.specs.{Nesting.Trees, Terminals.one_of, Terminals.passes, Tested.Is, Tested.Within, declared.terminals.Terminal.Terminal}
use Rattle.grammar.specs.Deciding.{LevelTables, expects, guarded, sane}
use Rattle.grammar.specs.Grammars.{Grammar, IsNone, Level, again, choice, greedy, level, loop, nothing, rounds, seq, token}
use Rattle.grammar.specs.Nodes.{Item, Node, Nothing, Pair, next, spell}
use Rattle.grammar.specs.Reading.{◌>>=◌, Deep, Read, Refusal, Unfit, levels, read, reads, then_pair, token_at, turning, turns, unfit_here, unread_of}

-- the same refusal in front of other tokens
abbrev pub moved : Refusal → List Item → Refusal
moved (Unfit left) more = Unfit more
moved (Deep left) more = Deep more

pub record Local (p : List Item → Read) (l : List Item) (r : Refusal) : Type 0 where
  pub front : List Item
  pub whole : l ≡ front ++ unread_of r
  pub again : (more : List Item) → next more ≡ next (unread_of r) → p (front ++ more) ≡ Err (moved r more)

abbrev pub IsLocal : (List Item → Read) → Type 0
IsLocal p = (l : List Item) (r : Refusal) → p l ≡ Err r → Local p l r

pair_local : (P : Trees) (p q : List Item → Read) → Exact P p → (l : List Item) (r : Refusal) → (p l ≡ Err r → Local p l r)
    → ((a : Node) (m : List Item) → p l ≡ Ok (a, m) → q m ≡ Err r → Local q m r)
    → then_pair (p l) q ≡ Err r → Local (λ l. then_pair (p l) q) l r
pair_local P p q exact l r first second e =
    elim (bind_err (p l) (λ x. q x.1 >>= λ y. Ok (Pair x.0 y.0, y.1)) r e) [
      | inl h ↦ let s = first h in record { front = s.front; whole = s.whole; again = λ more at. ap (λ (z : Read). then_pair z q) (s.again more at) }
      | inr h ↦
          elim (bind_err (q h.0.1) (λ y. Ok (Pair h.0.0 y.0, y.1)) r h.2) [
            | inl g ↦
                let s = exact.sound l h.0.0 h.0.1 h.1 in
                let t = second h.0.0 h.0.1 h.1 g in
                record {
                  front = spell h.0.0 ++ t.front;
                  whole = s.0 ∙ ap (λ (m : List Item). spell h.0.0 ++ m) t.whole ∙ sym (append_assoc (spell h.0.0) t.front (unread_of r));
                  again = λ more at.
                      let head : next h.0.1 ≡ next (t.front ++ more) = ap next t.whole ∙ sym (same_next t.front more (unread_of r) at) in
                      let one : p (spell h.0.0 ++ (t.front ++ more)) ≡ Ok (h.0.0, t.front ++ more) =
                      exact.again h.0.0 (t.front ++ more) (subst (P h.0.0) head s.1) in
                      ap (λ (m : List Item). then_pair (p m) q) (append_assoc (spell h.0.0) t.front more) ∙ ap (λ (z : Read). then_pair z q) one
                      ∙ ap (λ (z : Read). z >>= λ y. Ok (Pair h.0.0 y.0, y.1)) (t.again more at);
                }
            | inr g ↦ absurd (ok_no_err (Pair h.0.0 g.0.0, g.0.1) r g.2)
          ]
    ]

choice_local : (ks : List Terminal) (p q : List Item → Read) (l : List Item) (r : Refusal) → (p l ≡ Err r → Local p l r) → (q l ≡ Err r → Local q l r)
    → cond (passes ks (next l)) (p l) (q l) ≡ Err r → Local (λ l. cond (passes ks (next l)) (p l) (q l)) l r
choice_local ks p q l r first second e =
    elim (ok_or_err (passes ks (next l)) (p l) (q l) (Err r) e) [
      | inl h ↦
          let s = first h.1 in
          record {
            front = s.front;
            whole = s.whole;
            again = λ more at.
                let b : passes ks (next (s.front ++ more)) ≡ true = subst (λ (j : Option Terminal). passes ks j ≡ true)
                (ap next s.whole ∙ sym (same_next s.front more (unread_of r) at)) h.0 in
                rw b (s.again more at);
          }
      | inr h ↦
          let s = second h.1 in
          record {
            front = s.front;
            whole = s.whole;
            again = λ more at.
                let b : passes ks (next (s.front ++ more)) ≡ false =
                subst (λ (j : Option Terminal). passes ks j ≡ false) (ap next s.whole ∙ sym (same_next s.front more (unread_of r) at)) h.0 in
                rw b (s.again more at);
          }
    ]

unfit_local : (p : List Item → Read) (l : List Item) (r : Refusal) → failed (Unfit l) ≡ Err r
    → ((more : List Item) → next more ≡ next l → p more ≡ Err (Unfit more)) → Local p l r
unfit_local p l r e back = at r (err_is (Unfit l) r e)
  where
    at : (r : Refusal) → Unfit l ≡ r → Local p l r
    at r e = subst (Local p l) e (record { front = []; whole = refl; again = back })

deep_local : (p : List Item → Read) (l : List Item) (r : Refusal) → failed (Deep l) ≡ Err r
    → ((more : List Item) → next more ≡ next l → p more ≡ Err (Deep more)) → Local p l r
deep_local p l r e back = at r (err_is (Deep l) r e)
  where
    at : (r : Refusal) → Deep l ≡ r → Local p l r
    at r e = subst (Local p l) e (record { front = []; whole = refl; again = back })

-- what is no token here is none in front of another rest
not_taken : (ks : List Terminal) (more : List Item) → passes ks (next more) ≡ false → token_at ks more ≡ Err (Unfit more)
not_taken ks [] e = refl
not_taken ks (x ∷ more) e = let f : one_of ks x.kind ≡ false = e in rw f refl

token_local : (ks : List Terminal) → IsLocal (token_at ks)
token_local ks l r e =
    let f = token_fails ks l r e in
    unfit_local (token_at ks) l r f.0 (λ more at. not_taken ks more (subst (λ (j : Option Terminal). passes ks j ≡ false) (sym at) f.1))

pub unread_local : IsLocal unfit_here
unread_local l r e = unfit_local unfit_here l r e (λ more at. refl)

module _ (f : (List Item → Read) → List Item → Read) (guards : Guards f) (body : (k : ℕ) → IsLocal (turns k f) → IsLocal (f (turns k f))) where
  turns_local : (k : ℕ) → IsLocal (turns k f)
  turns_local zero l r e = unfit_local (turns zero f) l r e (λ more at. refl)
  turns_local (suc k) l r e = let s = body k (turns_local k) l r e in record { front = s.front; whole = s.whole; again = s.again }

  pub turning_local : IsLocal (turning f)
  unfolding turning
  turning_local l r e =
      let s = turns_local (suc (length l)) l r e in
      record {
        front = s.front;
        whole = s.whole;
        again = λ more at.
            let m = s.front ++ more in
            let K = suc (length l + length m) in
            let e' : turns K f l ≡ Err r = enough f guards K (suc (length l)) l (omega arith) (omega arith) ∙ e in
            let s' = turns_local K l r e' in
            let same : s'.front ≡ s.front = append_cancel_right s'.front s.front (unread_of r) (sym s'.whole ∙ s.whole) in
            enough f guards (suc (length m)) K m (omega arith) (omega arith) ∙ ap (λ (z : List Item). turns K f (z ++ more)) (sym same) ∙ s'.again more at;
      }

-- ---- grammars and levels

level_local_zero : (t : LevelTables) (v : Level) → IsLocal (levels t zero v)
unfolding levels
level_local_zero t v l r e =
    elim (ok_or_err (expects t v (next l)) (Err (Deep l)) (Err (Unfit l)) (Err r) e) [
      | inl h ↦ deep_local (levels t zero v) l r h.1 (λ more at. let b : expects t v (next more) ≡ true =
          subst (λ (j : Option Terminal). expects t v j ≡ true) (sym at) h.0 in rw b refl)
      | inr h ↦ unfit_local (levels t zero v) l r h.1 (λ more at. let b : expects t v (next more) ≡ false =
          subst (λ (j : Option Terminal). expects t v j ≡ false) (sym at) h.0 in rw b refl)
    ]

module _ (t : LevelTables) (sane_rule : (l : Level) → sane (t.rule l) ≡ true) where
  module _ (n : ℕ) (level_local : (v : Level) → IsLocal (levels t n v)) where
    exact_in : (g : Grammar) → sane g ≡ true → (V : Trees) (u : List Item → Read) → Exact V u → Exact (Is (Within t.rule n) g V) (reads (levels t n) g u)
    exact_in = grammar_exact (Within t.rule n) (levels t n) (levels_exact t sane_rule n)

    pub local : (g : Grammar) → sane g ≡ true → (V : Trees) (u : List Item → Read) → Exact V u → IsLocal u → IsLocal (reads (levels t n) g u)
    local (token ks) ok V u x s l r e = token_local ks l r e
    local nothing ok V u x s l r e = absurd (ok_no_err (Nothing, l) r e)
    local (seq a b) ok V u x s l r e =
        let o = and_parts (sane a) (sane b) ok in
        pair_local (Is (Within t.rule n) a V) (reads (levels t n) a u) (reads (levels t n) b u) (exact_in a o.0 V u x) l r (local a o.0 V u x s l r)
        (λ y m first g. local b o.1 V u x s m r g) e
    local (choice ks a b) ok V u x s l r e =
        let o = and_parts (sane a) (sane b) ok in choice_local ks (reads (levels t n) a u) (reads (levels t n) b u) l r (local a o.0 V u x s l r)
        (local b o.1 V u x s l r) e
    local (greedy ks a) ok V u x s l r e = choice_local ks (reads (levels t n) a u) (λ l. Ok (Nothing, l)) l r (local a ok V u x s l r)
        (λ h. absurd (ok_no_err (Nothing, l) r h)) e
    local (level v) ok V u x s l r e = level_local v l r e
    local (loop a) ok V u x s l r e =
        let o = and_parts (sane a) (guarded a) ok in
        let P = Within t.rule n in
        let p = levels t n in
        let guards = guarded_same p (level_shortens P p (levels_exact t sane_rule n)) a o.1 in
        turning_local (reads p a) guards (λ k. local a o.0 (rounds k (Is P a)) (turns k (reads p a))
        (rounds_exact (Is P a) (reads p a) (is_up P P (λ v x h r. r) a) guards (exact_in a o.0) k)) l r e
    local again ok V u x s l r e = s l r e

  pub level_local : (n : ℕ) (v : Level) → IsLocal (levels t n v)
  unfolding levels
  level_local zero v l r e = level_local_zero t v l r e
  level_local (suc n) v l r e =
      let s = local n (level_local n) (t.rule v) (sane_rule v) IsNone unfit_here none_exact unread_local l r e in record {
        front = s.front;
        whole = s.whole;
        again = s.again;
      }

  pub read_local : (n : ℕ) (g : Grammar) → sane g ≡ true → IsLocal (read t n g)
  unfolding read
  read_local n g ok l r e = let s = local n (level_local n) g ok IsNone unfit_here none_exact unread_local l r e in record {
    front = s.front;
    whole = s.whole;
    again = s.again;
  }
