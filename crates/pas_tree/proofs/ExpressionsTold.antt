-- Expressions with equal nodes have equal trees.
use Rattle.std.proofs.Common.{◌∙◌, ◌∷◌, ◌≡◌, [], ℕ, List, ap, arith, map, refl, sym}
use Rattle.grammar.specs.{Nodes.row, Terminals.place, declared.terminals.Terminal.Terminal}
use Rattle.pas_tree.proofs.Told.{adding_told, form, lead, left, left_number, multiplying_told, number, relational_told, rest, right, second, sign_told}
use Rattle.pas_tree.specs.ExpressionTrees as tree
use Rattle.pas_tree.specs.Expressions as node
use Rattle.pas_tree.specs.declared.expressions.{Index.Index as IndexOf, Index.Index', Members.Empty, Members.Members, Members.Some}
use Rattle.pas_tree.specs.declared.expressions.{NextExpression.NextExpression', NextMember.NextMember', NextTerm.NextTerm', RangeEnd.RangeEnd'}
use Rattle.pas_tree.specs.declared.expressions.{Relation.Relation', Selector.Dereference, Selector.Field, Selector.Index, Selector.Selector}
use Rattle.pas_tree.specs.declared.expressions.Access.{Access, Row_of-Selector, end_of-Selector, more_of-Selector}
use Rattle.pas_tree.specs.declared.expressions.Arguments.{Arguments, Arguments', Row_of-NextExpression, end_of-NextExpression, more_of-NextExpression}
use Rattle.pas_tree.specs.declared.expressions.Expression as e
use Rattle.pas_tree.specs.declared.expressions.Factor.{Access', Call', Factor, Nil, Not', Number, Paren', Set', Text}
use Rattle.pas_tree.specs.declared.expressions.Member.{Held-Member-last, Member, Member', Member-last-None', Member-last-Some'}
use Rattle.pas_tree.specs.declared.expressions.Simple.{Row_of-NextTerm, Simple, Simple', end_of-NextTerm, more_of-NextTerm}
use Rattle.pas_tree.specs.declared.expressions.SomeMembers.{Row_of-NextMember, SomeMembers', end_of-NextMember, more_of-NextMember}
use Rattle.pas_tree.specs.declared.expressions.Term.{Row_of-NextFactor, Term, Term', end_of-NextFactor, more_of-NextFactor}

-- ---- first terminals

abbrev factor_place : Factor → ℕ
factor_place (Number n) = place Terminal.Number
factor_place (Text n) = place Terminal.Text
factor_place (Nil n) = place Terminal.WNil
factor_place (Access' n _ r) = place Terminal.Name
factor_place (Call' n _ a) = place Terminal.Name
factor_place (Paren' n _ a c) = place Terminal.LeftParen
factor_place (Set' _ m) = place Terminal.LeftBracket
factor_place (Not' n _ a) = place Terminal.WNot

members_lead : (m : Members) → lead (node.members_node m) ≡ place Terminal.LeftBracket
members_lead (Empty n c) = refl
members_lead (Some (SomeMembers' n a _ r c)) = refl

factor_lead : (f : Factor) → lead (node.factor_node f) ≡ factor_place f
factor_lead (Set' _ m) = members_lead m
factor_lead f = refl

abbrev selector_place : Selector → ℕ
selector_place (Index i) = place Terminal.LeftBracket
selector_place (Field n c) = place Terminal.Dot
selector_place (Dereference n) = place Terminal.Caret

selector_lead : (s : Selector) → lead (node.selector_node s) ≡ selector_place s
selector_lead (Index (Index' n a _ r c)) = refl
selector_lead s = refl

arguments_lead : (a : Arguments) → lead (node.arguments_node a) ≡ place Terminal.LeftParen
arguments_lead (Arguments' n a _ r c) = refl

-- what is after a name begins with no parenthesis where the name is that of a variable
no_arguments : {m : _} (r : Row_of-Selector m) → (lead (node.selectors_node r) ≡ place Terminal.LeftParen) → ⊥
no_arguments end_of-Selector e = absurd (omega arith)
no_arguments (more_of-Selector (Index i) r) e = absurd (omega (arith, selector_lead (Index i)))
no_arguments (more_of-Selector s r) e = absurd (omega arith)

mutual
  pub expression_told : (x y : e.Expression) → node.expression_node x ≡ node.expression_node y → tree.expression_tree x ≡ tree.expression_tree y
  expression_told (e.Expression' a r) (e.Expression' b s) q =
      λ i. tree.an_expression (simple_told a b (ap left q) i) (relation_told r s (ap right q) i)

  relation_told : (r s : e.Held-Expression-relation) → node.relation_node r ≡ node.relation_node s → tree.relation_tree r ≡ tree.relation_tree s
  relation_told e.Expression-relation-None' e.Expression-relation-None' q = refl
  relation_told (e.Expression-relation-Some' (Relation' o a)) (e.Expression-relation-Some' (Relation' p b)) q =
      λ i. tree.a_relation (relational_told o p (ap left q) i) (simple_told a b (ap right q) i)
  relation_told e.Expression-relation-None' (e.Expression-relation-Some' (Relation' p b)) q = absurd (omega (arith, ap form q))
  relation_told (e.Expression-relation-Some' (Relation' o a)) e.Expression-relation-None' q = absurd (omega (arith, ap form q))

  simple_told : (x y : Simple) → node.simple_node x ≡ node.simple_node y → tree.simple_tree x ≡ tree.simple_tree y
  simple_told (Simple' g a _ r) (Simple' h b _ s) q =
      λ i. tree.a_simple (sign_told g h (ap left q) i) (term_told a b (ap second q) i) (terms_told r s (ap rest q) i)

  terms_told : {m n : _} (r : Row_of-NextTerm m) (s : Row_of-NextTerm n) → node.terms_node r ≡ node.terms_node s → tree.term_row r ≡ tree.term_row s
  terms_told end_of-NextTerm end_of-NextTerm q = refl
  terms_told (more_of-NextTerm (NextTerm' o a) r) (more_of-NextTerm (NextTerm' p b) s) q =
      λ i. tree.more_terms (adding_told o p (ap left (ap left q)) i) (term_told a b (ap right (ap left q)) i) (terms_told r s (ap right q) i)
  terms_told end_of-NextTerm (more_of-NextTerm (NextTerm' p b) s) q = absurd (omega (arith, ap form q))
  terms_told (more_of-NextTerm (NextTerm' o a) r) end_of-NextTerm q = absurd (omega (arith, ap form q))

  term_told : (x y : Term) → node.term_node x ≡ node.term_node y → tree.term_tree x ≡ tree.term_tree y
  term_told (Term' a _ r) (Term' b _ s) q = λ i. tree.a_term (factor_told a b (ap left q) i) (factors_told r s (ap right q) i)

  factors_told : {m n : _} (r : Row_of-NextFactor m) (s : Row_of-NextFactor n) → node.factors_node r ≡ node.factors_node s
      → tree.factor_row r ≡ tree.factor_row s
  factors_told end_of-NextFactor end_of-NextFactor q = refl
  factors_told (more_of-NextFactor o a r) (more_of-NextFactor p b s) q =
      λ i. tree.more_factors (multiplying_told o p (ap left (ap left q)) i) (factor_told a b (ap right (ap left q)) i) (factors_told r s (ap right q) i)
  factors_told r s q = absurd (omega (arith, ap form q))

  factor_told : (x y : Factor) → node.factor_node x ≡ node.factor_node y → tree.factor_tree x ≡ tree.factor_tree y
  factor_told (Number n) (Number m) q = λ i. tree.a_number (ap number q i)
  factor_told (Text n) (Text m) q = λ i. tree.a_text (ap number q i)
  factor_told (Nil n) (Nil m) q = λ i. tree.a_nil (ap number q i)
  factor_told (Access' n _ r) (Access' m _ s) q = λ i. tree.an_access (ap left_number q i) (selectors_told r s (ap right q) i)
  factor_told (Call' n _ a) (Call' m _ b) q = λ i. tree.a_call (ap left_number q i) (arguments_told a b (ap right q) i)
  factor_told (Access' n _ r) (Call' m _ b) q = absurd (no_arguments r (ap lead (ap right q) ∙ arguments_lead b))
  factor_told (Call' n _ a) (Access' m _ s) q = absurd (no_arguments s (ap lead (sym (ap right q)) ∙ arguments_lead a))
  factor_told (Paren' n _ a c) (Paren' m _ b d) q =
      λ i. tree.a_paren (ap left_number q i) (expression_told a b (ap second q) i) (ap number (ap rest q) i)
  factor_told (Set' _ a) (Set' _ b) q = λ i. tree.a_set (members_told a b q i)
  factor_told (Not' n _ a) (Not' m _ b) q = λ i. tree.a_not (ap left_number q i) (factor_told a b (ap right q) i)
  factor_told x y q = absurd (omega (arith, ap lead q, factor_lead x, factor_lead y))

  selectors_told : {m n : _} (r : Row_of-Selector m) (s : Row_of-Selector n) → node.selectors_node r ≡ node.selectors_node s
      → tree.selector_row r ≡ tree.selector_row s
  selectors_told end_of-Selector end_of-Selector q = refl
  selectors_told (more_of-Selector a r) (more_of-Selector b s) q =
      λ i. tree.more_selectors (selector_told a b (ap left q) i) (selectors_told r s (ap right q) i)
  selectors_told r s q = absurd (omega (arith, ap form q))

  selector_told : (x y : Selector) → node.selector_node x ≡ node.selector_node y → tree.selector_tree x ≡ tree.selector_tree y
  selector_told (Index a) (Index b) q = λ i. tree.an_index (index_told a b q i)
  selector_told (Field n c) (Field m d) q = λ i. tree.a_field (ap left_number q i) (ap number (ap right q) i)
  selector_told (Dereference n) (Dereference m) q = λ i. tree.a_caret (ap number q i)
  selector_told x y q = absurd (omega (arith, ap lead q, selector_lead x, selector_lead y))

  index_told : (x y : IndexOf) → node.index_node x ≡ node.index_node y → tree.index_tree x ≡ tree.index_tree y
  index_told (Index' n a _ r c) (Index' m b _ s d) q =
      λ i. tree.index_list (ap left_number q i) (expression_told a b (ap second q) i) (expressions_told r s (ap left (ap rest q)) i)
      (ap number (ap right (ap rest q)) i)

  arguments_told : (x y : Arguments) → node.arguments_node x ≡ node.arguments_node y → tree.arguments_tree x ≡ tree.arguments_tree y
  arguments_told (Arguments' n a _ r c) (Arguments' m b _ s d) q =
      λ i. tree.argument_list (ap left_number q i) (expression_told a b (ap second q) i) (expressions_told r s (ap left (ap rest q)) i)
      (ap number (ap right (ap rest q)) i)

  expressions_told : {m n : _} (r : Row_of-NextExpression m) (s : Row_of-NextExpression n) → node.expressions_node r ≡ node.expressions_node s
      → tree.expression_row r ≡ tree.expression_row s
  expressions_told end_of-NextExpression end_of-NextExpression q = refl
  expressions_told (more_of-NextExpression (NextExpression' n a) r) (more_of-NextExpression (NextExpression' m b) s) q =
      λ i. tree.more_expressions (ap number (ap left (ap left q)) i) (expression_told a b (ap right (ap left q)) i) (expressions_told r s (ap right q) i)
  expressions_told end_of-NextExpression (more_of-NextExpression (NextExpression' m b) s) q = absurd (omega (arith, ap form q))
  expressions_told (more_of-NextExpression (NextExpression' n a) r) end_of-NextExpression q = absurd (omega (arith, ap form q))

  members_told : (x y : Members) → node.members_node x ≡ node.members_node y → tree.members_tree x ≡ tree.members_tree y
  members_told (Empty n c) (Empty m d) q = λ i. tree.empty_members (ap left_number q i) (ap number (ap right q) i)
  members_told (Some (SomeMembers' n a _ r c)) (Some (SomeMembers' m b _ s d)) q =
      λ i. tree.some_members (ap left_number q i) (member_told a b (ap second q) i) (more_members_told r s (ap left (ap rest q)) i)
      (ap number (ap right (ap rest q)) i)
  members_told (Empty n c) (Some (SomeMembers' m b _ s d)) q = absurd (omega (arith, ap form (ap right q)))
  members_told (Some (SomeMembers' n a _ r c)) (Empty m d) q = absurd (omega (arith, ap form (ap right q)))

  more_members_told : {m n : _} (r : Row_of-NextMember m) (s : Row_of-NextMember n) → node.more_members_node r ≡ node.more_members_node s
      → tree.member_row r ≡ tree.member_row s
  more_members_told end_of-NextMember end_of-NextMember q = refl
  more_members_told (more_of-NextMember (NextMember' n a) r) (more_of-NextMember (NextMember' m b) s) q =
      λ i. tree.more_members (ap number (ap left (ap left q)) i) (member_told a b (ap right (ap left q)) i) (more_members_told r s (ap right q) i)
  more_members_told end_of-NextMember (more_of-NextMember (NextMember' m b) s) q = absurd (omega (arith, ap form q))
  more_members_told (more_of-NextMember (NextMember' n a) r) end_of-NextMember q = absurd (omega (arith, ap form q))

  member_told : (x y : Member) → node.member_node x ≡ node.member_node y → tree.member_tree x ≡ tree.member_tree y
  member_told (Member' a r) (Member' b s) q =
      λ i. tree.a_member (expression_told a b (ap left q) i) (range_end_told r s (ap right q) i)

  range_end_told : (r s : Held-Member-last) → node.range_end_node r ≡ node.range_end_node s → tree.range_tree r ≡ tree.range_tree s
  range_end_told Member-last-None' Member-last-None' q = refl
  range_end_told (Member-last-Some' (RangeEnd' n a)) (Member-last-Some' (RangeEnd' m b)) q =
      λ i. tree.a_range (ap left_number q i) (expression_told a b (ap right q) i)
  range_end_told Member-last-None' (Member-last-Some' (RangeEnd' m b)) q = absurd (omega (arith, ap form q))
  range_end_told (Member-last-Some' (RangeEnd' n a)) Member-last-None' q = absurd (omega (arith, ap form q))

pub selector_items_told : (xs ys : List Selector) → row (map node.selector_node xs) ≡ row (map node.selector_node ys)
    → tree.selector_trees xs ≡ tree.selector_trees ys
selector_items_told [] [] q = refl
selector_items_told (x ∷ xs) (y ∷ ys) q = λ i. tree.more_selectors (selector_told x y (ap left q) i) (selector_items_told xs ys (ap right q) i)
selector_items_told xs ys q = absurd (omega (arith, ap form q))

-- an access by its name and what is selected
pub access_told : (a b : Access) → node.access_node a ≡ node.access_node b → tree.access_tree a ≡ tree.access_tree b
access_told a b q =
    λ i. record { name = ap left_number q i; selectors = selector_items_told a.selectors.items b.selectors.items (ap right q) i }
