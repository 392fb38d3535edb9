-- Each grammatical node whose lists are short is that of a typed tree.
use Rattle.std.proofs.Common.{ℕ, None, suc, zero}
use Rattle.grammar.specs.{Grammars.FreeWithin, Grammars.IsNone, Grammars.Level, Grammars.level, Nesting.Trees, Nodes.Node}
use Rattle.pas_tree.proofs.{BlocksCovered.block_covered, BlocksCovered.program_covered, Covers.Covers, DenotersCovered.denoter_covered}
use Rattle.pas_tree.proofs.{DenotersCovered.variant_part_covered, ExpressionsCovered.factor_covered, Fits.loose_rule, HeadingsCovered.heading_covered}
use Rattle.pas_tree.proofs.{Levels.Levels, SchemasCovered.schema_covered, ShapedIsGrammatical.shaped_is_grammatical, StatementsCovered.statement_covered}
use Rattle.pas_tree.specs.{FirstFollow.pascal, Rules.program_rule, Rules.rule, TypedTrees.GrammaticalHaveTrees, TypedTrees.ShapedHaveTrees}

abbrev LooseWithin : ℕ → Level → Trees
LooseWithin n = FreeWithin loose_rule n

no_tree : {A : Type 0} {l : Level} {view : A → Node} → Covers (LooseWithin zero) (level l) view
unfolding FreeWithin
no_tree = record { value = λ V x h r s. absurd r }

-- a level whose rule's trees are covered, one level deeper
deeper : {A : Type 0} {l : Level} {view : A → Node} (n : ℕ) → Covers (LooseWithin n) (rule l) view → Covers (LooseWithin (suc n)) (level l) view
unfolding FreeWithin
deeper n f = record { value = λ V x h r s. f.value IsNone x h r s }

levels_within : (n : ℕ) → Levels (LooseWithin n)
levels_within zero = record {
  block = no_tree;
  heading = no_tree;
  statement = λ inner closer. no_tree;
  denoter = no_tree;
  schema = no_tree;
  variant_part = no_tree;
  factor = no_tree;
}
levels_within (suc n) = record {
  block = deeper n (block_covered (levels_within n));
  heading = deeper n (heading_covered (levels_within n));
  statement = λ inner closer. deeper n (statement_covered (levels_within n) inner closer);
  denoter = deeper n (denoter_covered (levels_within n));
  schema = deeper n (schema_covered (levels_within n));
  variant_part = deeper n (variant_part_covered (levels_within n));
  factor = deeper n (factor_covered (levels_within n));
}

pub grammatical_have_trees : GrammaticalHaveTrees
grammatical_have_trees x g short = (program_covered (levels_within g.0)).value IsNone x None g.1 short

pub shaped_have_trees : ShapedHaveTrees
shaped_have_trees x s = grammatical_have_trees x (shaped_is_grammatical pascal program_rule x s)
