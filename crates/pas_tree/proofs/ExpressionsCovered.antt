-- Each node of an expression or an access is that of a typed tree.
use Rattle.std.proofs.Common.{◌∷◌, ◌≡◌, ◌⊎◌, [], ℕ, Global, Vec, ap, inl, inr, map, refl}
use denote.Hole.Carrier.{roll}
use Rattle.grammar.specs.{Nesting.Trees, Nodes.Node, Nodes.Pair, Nodes.leaf, Nodes.row, declared.terminals.Terminal.Terminal}
use Rattle.grammar.specs.Grammars.{Level, many, seq, word}
use Rattle.pas_tree.proofs.{Levels.Levels, Memory.boxed, Parts.parts, Repeated.listed}
use Rattle.pas_tree.proofs.ConstantsCovered.{adding_covered, multiplying_covered, relational_covered, sign_covered}
use Rattle.pas_tree.proofs.Covers.{Covers, absent, choose, fork, fork_node, four, made, one, or, pair, three}
use Rattle.pas_tree.proofs.ExpressionRolls.{arguments_rolled, index_rolled, members_rolled, selectors_hidden, simple_rolled, term_rolled}
use Rattle.pas_tree.specs.Expressions as node
use Rattle.pas_tree.specs.Rules as r
use Rattle.pas_tree.specs.declared.expressions.{Arguments.Arguments, Arguments.roll-Arguments, Index.roll-Index, Members.Empty, Members.Members, Members.Some}
use Rattle.pas_tree.specs.declared.expressions.{NextExpression.NextExpression, NextExpression.NextExpression', NextMember.NextMember, NextMember.NextMember'}
use Rattle.pas_tree.specs.declared.expressions.{NextTerm.NextTerm', RangeEnd.RangeEnd', Relation.Relation', Selector.Dereference, Selector.Field}
use Rattle.pas_tree.specs.declared.expressions.{Selector.Index, Selector.Selector, Simple.roll-Simple, SomeMembers.roll-SomeMembers, Term.roll-Term}
use Rattle.pas_tree.specs.declared.expressions.Expression as e
use Rattle.pas_tree.specs.declared.expressions.Factor.{Call', Factor, Nil, Not', Number, Paren', Set', Text, roll-Factor}
use Rattle.pas_tree.specs.declared.expressions.Factor.TheVariants as variant
use Rattle.pas_tree.specs.declared.expressions.Member.{Member, Member', Member-last-None', Member-last-Some'}

abbrev pub selectors_node : Vec Selector Global → Node
selectors_node s = row (map node.selector_node s.items)

-- a function's name and its arguments, or a variable's and its selectors
abbrev named_factor : ℕ → Arguments ⊎ Vec Selector Global → Factor
named_factor n (inl a) = Call' n (boxed tt) a
named_factor n (inr s) = variant.Access (record { name = n; selectors = s })

named_factor_is : (n : ℕ) (x : Arguments ⊎ Vec Selector Global)
    → node.factor_node (named_factor n x) ≡ Pair (leaf Terminal.Name n) (fork_node node.arguments_node selectors_node x)
unfolding roll-Factor roll
named_factor_is n (inl a) = refl
named_factor_is n (inr s) = ap (Pair (leaf Terminal.Name n)) (selectors_hidden s)

-- no members after the opening bracket, or some
abbrev members : ℕ → ℕ ⊎ (Member × Vec NextMember Global × ℕ) → Members
members n (inl close) = Empty n close
members n (inr p) = Some (roll-SomeMembers (record { «open» = n; first = p.0; others = p.1; close = p.2 }))

abbrev some_node : Member × Vec NextMember Global × ℕ → Node
some_node p = Pair (node.member_node p.0) (Pair (row (map node.next_member_node p.1.items)) (leaf Terminal.RightBracket p.2))

members_is : (n : ℕ) (x : ℕ ⊎ (Member × Vec NextMember Global × ℕ))
    → node.members_node (members n x) ≡ Pair (leaf Terminal.LeftBracket n) (fork_node (leaf Terminal.RightBracket) some_node x)
members_is n (inl close) = refl
members_is n (inr p) = members_rolled n p.0 p.1 p.2

module _ {E : Level → Trees} (levels : Levels E) where
  next_factor_covered : Covers E r.next_factor_rule node.next_factor_node
  unfolding r.next_factor_rule
  next_factor_covered = made (λ (operator, factor). record { operator = operator; factor = factor }) (λ _. refl) (pair multiplying_covered levels.factor)

  term_covered : Covers E r.term_rule node.term_node
  unfolding r.term_rule
  term_covered = made (λ (first, others). roll-Term (record { first = first; others = others })) (λ (first, others). term_rolled first others)
      (pair levels.factor (listed parts.next_factor next_factor_covered))

  next_term_covered : Covers E r.next_term_rule node.next_term_node
  unfolding r.next_term_rule
  next_term_covered = made (λ (operator, term). NextTerm' operator term) (λ _. refl) (pair adding_covered term_covered)

  simple_covered : Covers E r.simple_rule node.simple_node
  unfolding r.simple_rule
  simple_covered = made (λ (sign, first, others). roll-Simple (record { sign = sign; first = first; others = others }))
      (λ (sign, first, others). simple_rolled sign first others)
      (three sign_covered term_covered (listed parts.next_term next_term_covered))

  relation_covered : Covers E r.relation_rule node.relation_node
  unfolding r.relation_rule
  relation_covered =
      choose (made (λ (operator, right). e.Expression-relation-Some' (Relation' operator right)) (λ _. refl)
      (pair relational_covered simple_covered)) (absent e.Expression-relation-None' refl)

  pub expression_covered : Covers E r.expression_rule node.expression_node
  unfolding r.expression_rule
  expression_covered = made (λ (left, relation). e.Expression' left relation) (λ _. refl) (pair simple_covered relation_covered)

  -- ---- accesses

  next_expressions_covered : Covers E (many (Terminal.Comma ∷ []) r.next_expression_rule)
      (λ (l : Vec NextExpression Global). row (map node.next_expression_node l.items))
  unfolding r.next_expression_rule
  next_expressions_covered = listed parts.next_expression (made (λ (comma, x). NextExpression' comma x) (λ _. refl) (pair one expression_covered))

  index_covered : Covers E r.index_rule node.index_node
  unfolding r.index_rule
  index_covered = made (λ (open', first, others, close). roll-Index (record { «open» = open'; first = first; others = others; close = close }))
      (λ (open', first, others, close). index_rolled open' first others close)
      (four one expression_covered next_expressions_covered one)

  arguments_covered : Covers E r.arguments_rule node.arguments_node
  unfolding r.arguments_rule
  arguments_covered = made (λ (open', first, others, close). roll-Arguments (record { «open» = open'; first = first; others = others; close = close }))
      (λ (open', first, others, close). arguments_rolled open' first others close)
      (four one expression_covered next_expressions_covered one)

  selector_covered : Covers E r.selector_rule node.selector_node
  unfolding r.selector_rule
  selector_covered = choose (made Index (λ _. refl) index_covered)
      (choose (made (λ (dot, name). Field dot name) (λ _. refl) (pair one one)) (made Dereference (λ _. refl) one))

  pub selectors_covered : Covers E r.selectors_rule selectors_node
  unfolding r.selectors_rule
  selectors_covered = listed parts.selector selector_covered

  pub access_covered : Covers E r.access_rule node.access_node
  unfolding r.access_rule
  access_covered = made (λ (name, selectors). record { name = name; selectors = selectors }) (λ _. refl) (pair one selectors_covered)

  -- ---- sets

  range_end_covered : Covers E (r.optional (Terminal.Range ∷ []) (seq (word Terminal.Range) r.expression_rule)) node.range_end_node
  range_end_covered =
      choose (made (λ (range, last). Member-last-Some' (RangeEnd' range last)) (λ _. refl)
      (pair one expression_covered)) (absent Member-last-None' refl)

  member_covered : Covers E r.member_rule node.member_node
  unfolding r.member_rule
  member_covered = made (λ (first, last). Member' first last) (λ _. refl) (pair expression_covered range_end_covered)

  next_member_covered : Covers E r.next_member_rule node.next_member_node
  unfolding r.next_member_rule
  next_member_covered = made (λ (comma, member). NextMember' comma member) (λ _. refl) (pair one member_covered)

  members_covered : Covers E r.members_rule node.members_node
  unfolding r.members_rule
  members_covered = made (λ (n, rest). members n rest) (λ (n, rest). members_is n rest)
      (pair one (fork one (three member_covered (listed parts.next_member next_member_covered) one)))

  -- ---- factors

  pub factor_covered : Covers E r.factor_rule node.factor_node
  unfolding r.factor_rule r.named_factor_rule r.paren_rule
  factor_covered =
      choose (or (made Number (λ _. refl) one) (or (made Text (λ _. refl) one) (made Nil (λ _. refl) one)))
      (choose (made (λ (n, rest). named_factor n rest) (λ (n, rest). named_factor_is n rest) (pair one (fork arguments_covered selectors_covered)))
      (choose (made (λ (open', x, close). Paren' open' (boxed tt) x close) (λ _. refl) (three one expression_covered one))
      (choose (made (Set' (boxed tt)) (λ _. refl) members_covered)
      (made (λ (n, f). Not' n (boxed tt) f) (λ _. refl) (pair one levels.factor)))))
