-- The tokens of headings.
use Rattle.std.specs.Prelude.{ℕ}
use Rattle.pas_tree.specs.HeadingTrees.{HeadingTree}
use Rattle.pas_tree.specs.HeadingTrees as tree

abbrev pub heading_word : HeadingTree → ℕ
heading_word (tree.a_procedure (tree.procedure_heading word name formals)) = word
heading_word (tree.a_function (tree.function_heading word name formals result)) = word

abbrev pub heading_name : HeadingTree → ℕ
heading_name (tree.a_procedure (tree.procedure_heading word name formals)) = name
heading_name (tree.a_function (tree.function_heading word name formals result)) = name
