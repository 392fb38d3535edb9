-- Where the parts have more trees, so has the whole.
use Rattle.std.proofs.Common.{◌≤◌, ℕ, Option, arith, inl, inr, suc, zero}
use Rattle.grammar.specs.{Tested.Is, Tested.Within, declared.terminals.Terminal.Terminal}
use Rattle.grammar.specs.Grammars.{FreeIn, FreeWithin, Grammar, IsNone, Level, again, choice, greedy, level, loop, nothing, rounds, seq, token}
use Rattle.grammar.specs.Nodes.{Leaf, Node, Nothing, Pair, ahead, spell}

-- each tree of the first is one of the second
abbrev pub IsPart : (Node → Option Terminal → Type 0) → (Node → Option Terminal → Type 0) → Type 0
IsPart P Q = (x : Node) (h : Option Terminal) → P x h → Q x h

abbrev pub Carries : ((Node → Option Terminal → Type 0) → Node → Option Terminal → Type 0)
    → ((Node → Option Terminal → Type 0) → Node → Option Terminal → Type 0) → Type 1
Carries F G = (V W : Node → Option Terminal → Type 0) → IsPart V W → IsPart (F V) (G W)

-- a loop of larger rounds, and of more
pub rounds_map : (F G : (Node → Option Terminal → Type 0) → Node → Option Terminal → Type 0) → Carries F G → (k j : ℕ) → k ≤ j
    → IsPart (rounds k F) (rounds j G)
rounds_map F G c zero j le x h r = absurd r
rounds_map F G c (suc k) zero le x h r = absurd (omega arith)
rounds_map F G c (suc k) (suc j) le x h r = c (rounds k F) (rounds j G) (rounds_map F G c k j (omega arith)) x h r

pub none_in : (P : Node → Option Terminal → Type 0) → IsPart IsNone P
none_in P x h r = absurd r

module _ (P Q : Level → Node → Option Terminal → Type 0) (up : (v : Level) → IsPart (P v) (Q v)) where
  pub is_up : (g : Grammar) → Carries (Is P g) (Is Q g)
  is_up (token ks) V W c x h r = r
  is_up nothing V W c x h r = r
  is_up (seq a b) V W c (Leaf item) h r = r
  is_up (seq a b) V W c Nothing h r = r
  is_up (seq a b) V W c (Pair x y) h r = (is_up a V W c x (ahead (spell y) h) r.0, is_up b V W c y h r.1)
  is_up (choice ks a b) V W c x h r = elim r [ inl s ↦ inl (s.0, is_up a V W c x h s.1) | inr s ↦ inr (s.0, is_up b V W c x h s.1) ]
  is_up (greedy ks a) V W c x h r = elim r [ inl s ↦ inl (s.0, is_up a V W c x h s.1) | inr s ↦ inr s ]
  is_up (level v) V W c x h r = up v x h r
  is_up (loop a) V W c x h r = (r.0, rounds_map (Is P a) (Is Q a) (is_up a) r.0 r.0 (omega arith) x h r.1)
  is_up again V W c x h r = c x h r

  pub free_up : (g : Grammar) → Carries (FreeIn P g) (FreeIn Q g)
  free_up (token ks) V W c x h r = r
  free_up nothing V W c x h r = r
  free_up (seq a b) V W c (Leaf item) h r = r
  free_up (seq a b) V W c Nothing h r = r
  free_up (seq a b) V W c (Pair x y) h r = (free_up a V W c x (ahead (spell y) h) r.0, free_up b V W c y h r.1)
  free_up (choice ks a b) V W c x h r = elim r [ inl s ↦ inl (free_up a V W c x h s) | inr s ↦ inr (free_up b V W c x h s) ]
  free_up (greedy ks a) V W c x h r = elim r [ inl s ↦ inl (free_up a V W c x h s) | inr s ↦ inr s ]
  free_up (level v) V W c x h r = up v x h r
  free_up (loop a) V W c x h r = (r.0, rounds_map (FreeIn P a) (FreeIn Q a) (free_up a) r.0 r.0 (omega arith) x h r.1)
  free_up again V W c x h r = c x h r

pub all_in : (P : Node → Option Terminal → Type 0) → IsPart P P
all_in P x h r = r

-- more levels
module _ (rule : Level → Grammar) where
  pub within_up : (n m : ℕ) → n ≤ m → (v : Level) → IsPart (Within rule n v) (Within rule m v)
  unfolding Within
  within_up zero m le v x h r = absurd r
  within_up (suc n) zero le v x h r = absurd (omega arith)
  within_up (suc n) (suc m) le v x h r = is_up (Within rule n) (Within rule m) (within_up n m (omega arith)) (rule v) IsNone IsNone (all_in IsNone) x h r

  pub free_within_up : (n m : ℕ) → n ≤ m → (v : Level) → IsPart (FreeWithin rule n v) (FreeWithin rule m v)
  unfolding FreeWithin
  free_within_up zero m le v x h r = absurd r
  free_within_up (suc n) zero le v x h r = absurd (omega arith)
  free_within_up (suc n) (suc m) le v x h r = free_up (FreeWithin rule n) (FreeWithin rule m) (free_within_up n m (omega arith)) (rule v) IsNone IsNone
      (all_in IsNone) x h r
