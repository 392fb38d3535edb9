-- The constructs that count as nesting, whose nodes are those of typed trees.
use Rattle.std.proofs.Common.{ℕ, Bool, Option}
use Rattle.grammar.specs.{Nesting.Trees, Nodes.Node}
use Rattle.grammar.specs.Grammars.{Closer, Level, block, denoter, factor, heading, level, schema, statement, variant_part}
use Rattle.pas_tree.proofs.Covers.{Covers}
use Rattle.pas_tree.specs.{Blocks.block_node, Denoters.denoter_node, Denoters.variants_node, Expressions.factor_node, Headings.heading_node}
use Rattle.pas_tree.specs.{Schemas.schema_node, Statements.statement_node, declared.denoters.Variants.Variants}

-- a variant part, and the semicolon after its last arm if there is one
abbrev pub ended_variants_node : Variants × Option ℕ → Node
ended_variants_node p = variants_node p.0 p.1

pub record Levels (E : Level → Trees) : Type 1 where
  pub block : Covers E (level block) block_node
  pub heading : Covers E (level heading) heading_node
  pub statement : (inner : Bool) (closer : Closer) → Covers E (level (statement inner closer)) statement_node
  pub denoter : Covers E (level denoter) denoter_node
  pub schema : Covers E (level schema) schema_node
  pub variant_part : Covers E (level variant_part) ended_variants_node
  pub factor : Covers E (level factor) factor_node
