-- Where blocks begin (6.2.1).
use Rattle.std.specs.Prelude.{ℕ, None, Option, Some}
use Rattle.pas_tree.specs.BlockTrees.{BlockTree, ConstantPartTree, LabelPartTree, TypePartTree}
use Rattle.pas_tree.specs.BlockTrees as tree
use Rattle.pas_tree.specs.StatementPlaces.{compound_word}
use Rattle.check_steps.specs.declared.regions.Span.{Span}
use Rattle.decl_checker.specs.Blocks.{word_after}

abbrev pub first_of_parts : Option LabelPartTree → Option ConstantPartTree → Option TypePartTree → ℕ → ℕ
first_of_parts (Some p) constants types after = p.word
first_of_parts None (Some p) types after = p.word
first_of_parts None None (Some p) after = p.word
first_of_parts None None None after = after

-- the first token of a block: that of the first of its parts
abbrev pub first_of_block : BlockTree → ℕ
first_of_block (tree.a_block labels constants types variables routines body) =
    first_of_parts labels constants types (word_after variables routines body)

abbrev pub word_of_body : BlockTree → ℕ
word_of_body (tree.a_block labels constants types variables routines body) = compound_word body

abbrev pub span_of : BlockTree → Span
span_of b = record { first = first_of_block b; statements = word_of_body b }
