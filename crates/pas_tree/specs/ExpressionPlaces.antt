-- Where expressions begin, and the tokens of selectors.
use Rattle.std.specs.Prelude.{ℕ, None, Some}
use Rattle.pas_tree.specs.{ExpressionTrees.SimpleTree, ExpressionTrees.TermTree, OperatorPlaces.sign_token}
use Rattle.pas_tree.specs.ExpressionTrees.{ExpressionTree, FactorTree, IndexTree, MemberTree, MembersTree, SelectorTree}
use Rattle.pas_tree.specs.ExpressionTrees as tree

abbrev pub first_of_members : MembersTree → ℕ
first_of_members (tree.empty_members left right) = left
first_of_members (tree.some_members left first others right) = left

abbrev pub first_of_factor : FactorTree → ℕ
first_of_factor (tree.a_number token) = token
first_of_factor (tree.a_text token) = token
first_of_factor (tree.a_nil token) = token
first_of_factor (tree.an_access name selectors) = name
first_of_factor (tree.a_call name a) = name
first_of_factor (tree.a_paren left e right) = left
first_of_factor (tree.a_set members) = first_of_members members
first_of_factor (tree.a_not word f) = word

abbrev pub first_of_term : TermTree → ℕ
first_of_term (tree.a_term first others) = first_of_factor first

abbrev pub first_of_simple : SimpleTree → ℕ
first_of_simple (tree.a_simple (Some s) first others) = sign_token s
first_of_simple (tree.a_simple None first others) = first_of_term first

abbrev pub first_of_expression : ExpressionTree → ℕ
first_of_expression (tree.an_expression left relation) = first_of_simple left

abbrev pub first_of_member : MemberTree → ℕ
first_of_member (tree.a_member first last) = first_of_expression first

abbrev pub left_of_index : IndexTree → ℕ
left_of_index (tree.index_list left first others right) = left

-- of indices the `[`, of a field its name, and the `^`
abbrev pub selector_token : SelectorTree → ℕ
selector_token (tree.an_index i) = left_of_index i
selector_token (tree.a_field dot name) = name
selector_token (tree.a_caret token) = token
