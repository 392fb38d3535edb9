-- A shaped node is a tree of the grammar too where greedy parts may be left out anywhere.
use Rattle.std.proofs.Common.{ℕ, None, arith, inl, inr, suc, zero}
use Rattle.grammar.proofs.Larger.{Carries, IsPart, all_in, rounds_map}
use Rattle.grammar.specs.{Deciding.LevelTables, Loose.IsGrammatical, Loose.loose, Nesting.IsShaped, Nesting.Trees}
use Rattle.grammar.specs.Grammars.{FreeIn, FreeWithin, Grammar, IsNone, Level, again, choice, greedy, level, loop, nothing, seq, token}
use Rattle.grammar.specs.Nodes.{Leaf, Node, Nothing, Pair, ahead, spell}

module _ (P Q : Level → Trees) (up : (l : Level) → IsPart (P l) (Q l)) where
  pub loosened : (g : Grammar) → Carries (FreeIn P g) (FreeIn Q (loose g))
  loosened (token ks) V W c x h r = r
  loosened nothing V W c x h r = r
  loosened (seq a b) V W c (Leaf item) h r = r
  loosened (seq a b) V W c Nothing h r = r
  loosened (seq a b) V W c (Pair x y) h r = (loosened a V W c x (ahead (spell y) h) r.0, loosened b V W c y h r.1)
  loosened (choice ks a b) V W c x h r = elim r [ inl s ↦ inl (loosened a V W c x h s) | inr s ↦ inr (loosened b V W c x h s) ]
  loosened (greedy ks a) V W c x h r = elim r [ inl s ↦ inl (loosened a V W c x h s) | inr s ↦ inr s.0 ]
  loosened (level l) V W c x h r = up l x h r
  loosened (loop a) V W c x h r = (r.0, rounds_map (FreeIn P a) (FreeIn Q (loose a)) (loosened a) r.0 r.0 (omega arith) x h r.1)
  loosened again V W c x h r = c x h r

abbrev loosely : (Level → Grammar) → Level → Grammar
loosely rule l = loose (rule l)

loosened_within : (rule : Level → Grammar) (n : ℕ) (l : Level) → IsPart (FreeWithin rule n l) (FreeWithin (loosely rule) n l)
unfolding FreeWithin
loosened_within rule zero l x h r = absurd r
loosened_within rule (suc n) l x h r =
    loosened (FreeWithin rule n) (FreeWithin (loosely rule) n) (loosened_within rule n) (rule l) IsNone IsNone (all_in IsNone) x h r

pub shaped_is_grammatical : (t : LevelTables) (g : Grammar) (x : Node) → IsShaped t g x → IsGrammatical t.rule g x
shaped_is_grammatical t g x s =
    (s.0, loosened (FreeWithin t.rule s.0) (FreeWithin (loosely t.rule) s.0) (loosened_within t.rule s.0) g IsNone IsNone (all_in IsNone) x None s.1)
