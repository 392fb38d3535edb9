-- The reader of a grammar is exact for the trees to which its tests lead.
use Rattle.std.proofs.Common.{◌++◌, ◌+◌, ◌∙◌, ◌≡◌, [], ℕ, Err, List, Ok, Option, ap, arith, inl, inr, length, length-append, suc, sym, true, zero}
use Rattle.std.proofs.lemmas.{Bool.and_parts, List.append_cancel_right}
use Rattle.grammar.proofs.{Larger.Carries, Larger.is_up, Larger.rounds_map, Loops.Guards, Loops.Shortens, Loops.enough, Loops.guarded_same}
use Rattle.grammar.proofs.Exact.{Exact, Refuses, choice_exact, err_is, none_exact, nothing_exact, ok_no_err, ok_or_err, pair_exact, token_exact}
use Rattle.grammar.specs.{Tested.Is, Tested.Within, declared.terminals.Terminal.Terminal}
use Rattle.grammar.specs.Deciding.{LevelTables, expects, guarded, sane}
use Rattle.grammar.specs.Grammars.{Grammar, IsNone, IsNothing, Level, again, choice, greedy, level, loop, nothing, rounds, seq, token}
use Rattle.grammar.specs.Nodes.{Item, Node, Nothing, next, spell}
use Rattle.grammar.specs.Reading.{Deep, Read, Refusal, Unfit, levels, reads, turning, turns, unfit_here, unread_of}

pub exact_shortens : (P : Node → Option Terminal → Type 0) (p : List Item → Read) → Exact P p → Shortens p
exact_shortens P p e l x rest h = let s = e.sound l x rest h in omega (arith, ap length s.0, length-append (spell x) rest)

-- the same front stands before the same rest
pub refuses_same : (P Q : Node → Option Terminal → Type 0) (l left : List Item) → Refuses P l left → (front : List Item) → l ≡ front ++ left
    → (x : Node) (rest more : List Item) → P x (next rest) → spell x ++ rest ≡ front ++ more → next more ≡ next left → ⊥
refuses_same P Q l left s front whole x rest more h same at =
    let e : front ≡ s.0 = append_cancel_right front s.0 left (sym whole ∙ s.1) in
    s.2 x rest more h (same ∙ ap (λ (f : List Item). f ++ more) e) at

module _ (F : (Node → Option Terminal → Type 0) → Node → Option Terminal → Type 0) (f : (List Item → Read) → List Item → Read)
    (carries : Carries F F) (guards : Guards f) (body : (V : Node → Option Terminal → Type 0) (u : List Item → Read) → Exact V u → Exact (F V) (f u)) where
  pub rounds_exact : (k : ℕ) → Exact (rounds k F) (turns k f)
  rounds_exact zero = none_exact
  rounds_exact (suc k) = let e = body (rounds k F) (turns k f) (rounds_exact k) in record { sound = e.sound; again = e.again; refused = e.refused }

  loop_sound : (l : List Item) (x : Node) (rest : List Item) → turning f l ≡ Ok (x, rest) → (l ≡ spell x ++ rest) × ((k : ℕ) × rounds k F x (next rest))
  unfolding turning
  loop_sound l x rest e = let s = (rounds_exact (suc (length l))).sound l x rest e in (s.0, (suc (length l), s.1))

  loop_again : (x : Node) (rest : List Item) → ((k : ℕ) × rounds k F x (next rest)) → turning f (spell x ++ rest) ≡ Ok (x, rest)
  unfolding turning
  loop_again x rest h =
      let l = spell x ++ rest in
      let K = suc (h.0 + length l) in
      enough f guards (suc (length l)) K l (omega arith) (omega arith) ∙ (rounds_exact K).again x rest
      (rounds_map F F carries h.0 K (omega arith) x (next rest) h.1)

  loop_refused : (l : List Item) (r : Refusal) → turning f l ≡ Err r → Refuses (λ x h. (k : ℕ) × rounds k F x h) l (unread_of r)
  unfolding turning
  loop_refused l r e =
      let s = (rounds_exact (suc (length l))).refused l r e in (
        s.0,
        s.1,
        λ x rest more h same at.
            let K = suc (h.0 + length l) in
            let again' : turns K f l ≡ Err r = enough f guards K (suc (length l)) l (omega arith) (omega arith) ∙ e in
            refuses_same (rounds K F) (rounds K F) l (unread_of r) ((rounds_exact K).refused l r again') s.0 s.1 x rest more
            (rounds_map F F carries h.0 K (omega arith) x (next rest) h.1) same at,
      )

  pub loop_exact : Exact (λ x h. (k : ℕ) × rounds k F x h) (turning f)
  loop_exact = record { sound = loop_sound; again = loop_again; refused = loop_refused }

module _ (P : Level → Node → Option Terminal → Type 0) (p : Level → List Item → Read) (exact : (v : Level) → Exact (P v) (p v)) where
  pub level_shortens : (v : Level) → Shortens (p v)
  level_shortens v = exact_shortens (P v) (p v) (exact v)

  pub grammar_exact : (g : Grammar) → sane g ≡ true → (V : Node → Option Terminal → Type 0) (u : List Item → Read) → Exact V u → Exact (Is P g V) (reads p g u)
  grammar_exact (token ks) ok V u e = token_exact ks
  grammar_exact nothing ok V u e = nothing_exact
  grammar_exact (seq a b) ok V u e = let o = and_parts (sane a) (sane b) ok in pair_exact (Is P a V) (Is P b V) (reads p a u) (reads p b u)
      (grammar_exact a o.0 V u e) (grammar_exact b o.1 V u e)
  grammar_exact (choice ks a b) ok V u e = let o = and_parts (sane a) (sane b) ok in choice_exact ks (Is P a V) (Is P b V) (reads p a u) (reads p b u)
      (grammar_exact a o.0 V u e) (grammar_exact b o.1 V u e)
  grammar_exact (greedy ks a) ok V u e = choice_exact ks (Is P a V) (λ x h. IsNothing x) (reads p a u) (λ l. Ok (Nothing, l))
      (grammar_exact a ok V u e) nothing_exact
  grammar_exact (level v) ok V u e = exact v
  grammar_exact (loop a) ok V u e =
      let o = and_parts (sane a) (guarded a) ok in
      loop_exact (Is P a) (reads p a) (is_up P P (λ v x h r. r) a) (guarded_same p level_shortens a o.1) (grammar_exact a o.0)
  grammar_exact again ok V u e = e

-- ---- the levels

module _ (t : LevelTables) (sane_rule : (l : Level) → sane (t.rule l) ≡ true) where
  no_level : (l : Level) (items : List Item) (r : Refusal) → levels t zero l items ≡ Err r → Refuses (Within t.rule zero l) items (unread_of r)
  unfolding levels Within
  no_level l items r e =
      elim (ok_or_err (expects t l (next items)) (Err (Deep items)) (Err (Unfit items)) (Err r) e) [
        | inl f ↦ ([], ap unread_of (err_is (Deep items) r f.1), λ x rest more h same at. h)
        | inr f ↦ ([], ap unread_of (err_is (Unfit items) r f.1), λ x rest more h same at. h)
      ]

  no_tree : (l : Level) (items : List Item) (x : Node) (rest : List Item) → levels t zero l items ≡ Ok (x, rest)
      → (items ≡ spell x ++ rest) × Within t.rule zero l x (next rest)
  unfolding levels Within
  no_tree l items x rest e =
      elim (ok_or_err (expects t l (next items)) (Err (Deep items)) (Err (Unfit items)) (Ok (x, rest)) e) [
        | inl f ↦ absurd (ok_no_err (x, rest) (Deep items) (sym f.1))
        | inr f ↦ absurd (ok_no_err (x, rest) (Unfit items) (sym f.1))
      ]

  no_text : (l : Level) (x : Node) (rest : List Item) → Within t.rule zero l x (next rest) → levels t zero l (spell x ++ rest) ≡ Ok (x, rest)
  unfolding levels Within
  no_text l x rest h = absurd h

  pub levels_exact : (n : ℕ) (l : Level) → Exact (Within t.rule n l) (levels t n l)
  unfolding levels Within
  levels_exact zero l = record { sound = no_tree l; again = no_text l; refused = no_level l }
  levels_exact (suc n) l = grammar_exact (Within t.rule n) (levels t n) (levels_exact n) (t.rule l) (sane_rule l) IsNone unfit_here none_exact

  pub read_exact : (n : ℕ) (g : Grammar) → sane g ≡ true → Exact (Is (Within t.rule n) g IsNone) (reads (levels t n) g unfit_here)
  read_exact n g ok = grammar_exact (Within t.rule n) (levels t n) (levels_exact n) g ok IsNone unfit_here none_exact
