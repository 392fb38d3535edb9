-- The names that expressions are, if they are names alone.
use Rattle.std.specs.Prelude.{if◌then◌else◌, ◌&&◌, ℕ, Bool, None, Option, Some, false, is_none, true}
use Rattle.pas_tree.specs.ExpressionTrees.{AccessTree, ExpressionTree, FactorTree, FactorTrees, RelationTree}
use Rattle.pas_tree.specs.ExpressionTrees.{SelectorTrees, SimpleTree, TermTree, TermTrees}
use Rattle.pas_tree.specs.ExpressionTrees as tree

abbrev pub is_name : SelectorTrees → Bool
is_name tree.end_of_selectors = true
is_name (tree.more_selectors s rest) = false

abbrev pub name_if : Bool → ℕ → Option ℕ
name_if alone name = if alone then Some name else None

-- the name that an access is
abbrev pub access_name : AccessTree → Option ℕ
access_name a = name_if (is_name a.selectors) a.name

abbrev pub factor_name : FactorTree → Option ℕ
factor_name (tree.an_access name selectors) = name_if (is_name selectors) name
factor_name f = None

abbrev pub name_of_if : Bool → Option ℕ → Option ℕ
name_of_if alone name = if alone then name else None

abbrev pub is_last_factor : FactorTrees → Bool
is_last_factor tree.end_of_factors = true
is_last_factor (tree.more_factors operator f rest) = false

abbrev pub term_name : TermTree → Option ℕ
term_name (tree.a_term f others) = name_of_if (is_last_factor others) (factor_name f)

abbrev pub is_last_term : TermTrees → Bool
is_last_term tree.end_of_terms = true
is_last_term (tree.more_terms operator t rest) = false

abbrev pub simple_name : SimpleTree → Option ℕ
simple_name (tree.a_simple sign t others) = name_of_if (is_none sign && is_last_term others) (term_name t)

abbrev pub is_unrelated : RelationTree → Bool
is_unrelated tree.without_relation = true
is_unrelated (tree.a_relation operator right) = false

-- the name that an expression is
abbrev pub name_alone : ExpressionTree → Option ℕ
name_alone (tree.an_expression e relation) = name_of_if (is_unrelated relation) (simple_name e)
