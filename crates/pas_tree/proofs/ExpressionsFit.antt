-- Every expression's node fits its rule.
use Rattle.std.proofs.Common.{◌∷◌, [], List, map, refl}
use Rattle.grammar.specs.{Grammars.many, Grammars.seq, Grammars.word, Nodes.row, declared.terminals.Terminal.Terminal}
use Rattle.pas_tree.proofs.Fits.{Fits, absent, adding_fits, cons, deeper, left, listed, multiplying_fits, nil, one, pair, relational_fits, right, sign_fits}
use Rattle.pas_tree.specs.Expressions as node
use Rattle.pas_tree.specs.Rules as r
use Rattle.pas_tree.specs.declared.expressions.{Index.Index as IndexTree, Index.Index', Members.Empty, Members.Members, Members.Some}
use Rattle.pas_tree.specs.declared.expressions.{NextExpression.NextExpression', NextMember.NextMember', NextTerm.NextTerm', RangeEnd.RangeEnd'}
use Rattle.pas_tree.specs.declared.expressions.{Relation.Relation', Selector.Dereference, Selector.Field, Selector.Index, Selector.Selector}
use Rattle.pas_tree.specs.declared.expressions.Access.{Access, Row_of-Selector, end_of-Selector, more_of-Selector}
use Rattle.pas_tree.specs.declared.expressions.Arguments.{Arguments, Arguments', Row_of-NextExpression, end_of-NextExpression, more_of-NextExpression}
use Rattle.pas_tree.specs.declared.expressions.Expression as e
use Rattle.pas_tree.specs.declared.expressions.Factor.{Access', Call', Factor, Nil, Not', Number, Paren', Set', Text}
use Rattle.pas_tree.specs.declared.expressions.Member.{Held-Member-last, Member, Member', Member-last-None', Member-last-Some'}
use Rattle.pas_tree.specs.declared.expressions.Simple.{Row_of-NextTerm, Simple, Simple', end_of-NextTerm, more_of-NextTerm}
use Rattle.pas_tree.specs.declared.expressions.SomeMembers.{Row_of-NextMember, SomeMembers', end_of-NextMember, more_of-NextMember}
use Rattle.pas_tree.specs.declared.expressions.Term.{Row_of-NextFactor, Term, Term', end_of-NextFactor, more_of-NextFactor}

mutual
  unfolding r.expression_rule r.relation_rule r.simple_rule r.next_term_rule r.term_rule r.next_factor_rule r.factor_rule r.named_factor_rule r.paren_rule
      r.selectors_rule r.selector_rule r.index_rule r.arguments_rule r.next_expression_rule r.members_rule r.next_member_rule r.member_rule

  pub expression_fits : (x : e.Expression) → Fits r.expression_rule (node.expression_node x)
  expression_fits (e.Expression' left relation) = pair (simple_fits left) (relation_fits relation)

  relation_fits : (x : e.Held-Expression-relation) → Fits r.relation_rule (node.relation_node x)
  relation_fits e.Expression-relation-None' = absent
  relation_fits (e.Expression-relation-Some' (Relation' operator x)) = left (pair (relational_fits operator) (simple_fits x))

  simple_fits : (s : Simple) → Fits r.simple_rule (node.simple_node s)
  simple_fits (Simple' sign first _ others) = pair (sign_fits sign) (pair (term_fits first) (terms_fits others))

  terms_fits : {m : _} (t : Row_of-NextTerm m) → Fits (many r.adding r.next_term_rule) (node.terms_node t)
  terms_fits end_of-NextTerm = nil
  terms_fits (more_of-NextTerm (NextTerm' operator term) rest) = cons (pair (adding_fits operator) (term_fits term)) (terms_fits rest)

  term_fits : (t : Term) → Fits r.term_rule (node.term_node t)
  term_fits (Term' first _ others) = pair (deeper (factor_fits first)) (factors_fits others)

  factors_fits : {m : _} (t : Row_of-NextFactor m) → Fits (many r.multiplying r.next_factor_rule) (node.factors_node t)
  factors_fits end_of-NextFactor = nil
  factors_fits (more_of-NextFactor operator f rest) = cons (pair (multiplying_fits operator) (deeper (factor_fits f))) (factors_fits rest)

  factor_fits : (f : Factor) → Fits r.factor_rule (node.factor_node f)
  factor_fits (Number n) = left (one refl)
  factor_fits (Text n) = left (one refl)
  factor_fits (Nil n) = left (one refl)
  factor_fits (Access' name _ selectors) = right (left (pair (one refl) (right (selectors_fits selectors))))
  factor_fits (Call' name _ arguments) = right (left (pair (one refl) (left (arguments_fits arguments))))
  factor_fits (Paren' open' _ x close) = right (right (left (pair (one refl) (pair (expression_fits x) (one refl)))))
  factor_fits (Set' _ members) = right (right (right (left (members_fits members))))
  factor_fits (Not' n _ f) = right (right (right (right (pair (one refl) (deeper (factor_fits f))))))

  selectors_fits : {m : _} (t : Row_of-Selector m) → Fits r.selectors_rule (node.selectors_node t)
  selectors_fits end_of-Selector = nil
  selectors_fits (more_of-Selector s rest) = cons (selector_fits s) (selectors_fits rest)

  pub selector_fits : (s : Selector) → Fits r.selector_rule (node.selector_node s)
  selector_fits (Index i) = left (index_fits i)
  selector_fits (Field dot name) = right (left (pair (one refl) (one refl)))
  selector_fits (Dereference n) = right (right (one refl))

  index_fits : (i : IndexTree) → Fits r.index_rule (node.index_node i)
  index_fits (Index' open' first _ others close) = pair (one refl) (pair (expression_fits first) (pair (expressions_fits others) (one refl)))

  arguments_fits : (a : Arguments) → Fits r.arguments_rule (node.arguments_node a)
  arguments_fits (Arguments' open' first _ others close) = pair (one refl) (pair (expression_fits first) (pair (expressions_fits others) (one refl)))

  expressions_fits : {m : _} (t : Row_of-NextExpression m) → Fits (many (Terminal.Comma ∷ []) r.next_expression_rule) (node.expressions_node t)
  expressions_fits end_of-NextExpression = nil
  expressions_fits (more_of-NextExpression (NextExpression' comma x) rest) = cons (pair (one refl) (expression_fits x)) (expressions_fits rest)

  members_fits : (m : Members) → Fits r.members_rule (node.members_node m)
  members_fits (Empty open' close) = pair (one refl) (left (one refl))
  members_fits (Some (SomeMembers' open' first _ others close)) =
      pair (one refl) (right (pair (member_fits first) (pair (more_members_fits others) (one refl))))

  more_members_fits : {m : _} (t : Row_of-NextMember m) → Fits (many (Terminal.Comma ∷ []) r.next_member_rule) (node.more_members_node t)
  more_members_fits end_of-NextMember = nil
  more_members_fits (more_of-NextMember (NextMember' comma member) rest) = cons (pair (one refl) (member_fits member)) (more_members_fits rest)

  member_fits : (m : Member) → Fits r.member_rule (node.member_node m)
  member_fits (Member' first last) = pair (expression_fits first) (range_end_fits last)

  range_end_fits : (x : Held-Member-last) → Fits (r.optional (Terminal.Range ∷ []) (seq (word Terminal.Range) r.expression_rule)) (node.range_end_node x)
  range_end_fits Member-last-None' = absent
  range_end_fits (Member-last-Some' (RangeEnd' range last)) = left (pair (one refl) (expression_fits last))

-- the selectors of an access that is no factor
pub selector_list_fits : (s : List Selector) → Fits r.selectors_rule (row (map node.selector_node s))
unfolding r.selectors_rule
selector_list_fits s = listed node.selector_node selector_fits s

pub access_fits : (a : Access) → Fits r.access_rule (node.access_node a)
unfolding r.access_rule
access_fits a = pair (one refl) (selector_list_fits a.selectors.items)
