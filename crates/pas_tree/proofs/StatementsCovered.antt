-- Each node of a statement is that of a typed tree.
use Rattle.std.proofs.Common.{◌∷◌, ◌≡◌, ◌⊎◌, [], ℕ, Bool, Global, None, Option, Some, Vec, false, inl, inr, refl, true}
use Rattle.grammar.specs.{Nesting.Trees, Nodes.Node, Nodes.Pair, Nodes.leaf, declared.terminals.Terminal.Terminal}
use Rattle.grammar.specs.Grammars.{Closer, Level, by_end, by_until, seq, word}
use Rattle.pas_tree.proofs.{ConstantsCovered.constants_covered, ConstantsCovered.direction_covered, DenotersCovered.semicolons, Levels.Levels, Memory.boxed}
use Rattle.pas_tree.proofs.{Parts.parts, Repeated.listed, StatementRolls.case_rolled, StatementRolls.statements_rolled}
use Rattle.pas_tree.proofs.Covers.{Covers, absent, choose, five, fork, fork_node, four, greedily, made, maybe, maybe_node, one, pair, three}
use Rattle.pas_tree.proofs.ExpressionsCovered.{access_covered, expression_covered, selectors_covered, selectors_node}
use Rattle.pas_tree.specs.{Expressions.expression_node, declared.expressions.Expression.Expression, declared.expressions.Selector.Selector}
use Rattle.pas_tree.specs.Rules as r
use Rattle.pas_tree.specs.Statements as node
use Rattle.pas_tree.specs.declared.statements.{Actuals.Actuals, Case.roll-Case, Compound.Compound' as CompoundTree', If.If' as IfTree', If.None', If.Some'}
use Rattle.pas_tree.specs.declared.statements.{Repeat.Repeat' as RepeatTree', Statements.roll-Statements}
use Rattle.pas_tree.specs.declared.statements.Plain.{Assignment as Assignment', Call, Case', Compound', Empty, For', Goto, If', Plain, Repeat', While', With'}

-- ---- a name that stands first

abbrev Assigned : Type 0
Assigned = Vec Selector Global × ℕ × Expression

abbrev assigned_node : Assigned → Node
assigned_node p = Pair (selectors_node p.0) (Pair (leaf Terminal.Becomes p.1) (expression_node p.2))

abbrev named_statement : ℕ → Actuals ⊎ Option Assigned → Plain
named_statement n (inl a) = Call n (Some (boxed a))
named_statement n (inr None) = Call n None
named_statement n (inr (Some p)) = Assignment' (boxed (record { target = record { name = n; selectors = p.0 }; becomes = p.1; value = p.2 }))

named_statement_is : (n : ℕ) (x : Actuals ⊎ Option Assigned)
    → node.plain_node (named_statement n x) ≡ Pair (leaf Terminal.Name n) (fork_node node.actuals_node (maybe_node assigned_node) x)
named_statement_is n (inl a) = refl
named_statement_is n (inr None) = refl
named_statement_is n (inr (Some p)) = refl

module _ {E : Level → Trees} (levels : Levels E) where
  -- ---- calls and assignments

  width_covered : Covers E (r.optional (Terminal.Colon ∷ []) (seq (word Terminal.Colon) r.expression_rule)) node.width_node
  width_covered =
      choose (made (λ (colon, width). Some (record { colon = colon; width = width })) (λ _. refl) (pair one (expression_covered levels))) (absent None refl)

  actual_covered : Covers E r.actual_rule node.actual_node
  unfolding r.actual_rule
  actual_covered = made (λ (expression, width). record { expression = expression; width = width }) (λ _. refl) (pair (expression_covered levels) width_covered)

  next_actual_covered : Covers E r.next_actual_rule node.next_actual_node
  unfolding r.next_actual_rule
  next_actual_covered = made (λ (comma, actual). record { comma = comma; actual = actual }) (λ _. refl) (pair one actual_covered)

  actuals_covered : Covers E r.actuals_rule node.actuals_node
  unfolding r.actuals_rule
  actuals_covered = made (λ (open', first, others, close). record { «open» = open'; first = first; others = others; close = close }) (λ _. refl)
      (four one actual_covered (listed parts.next_actual next_actual_covered) one)

  assignment_covered : Covers E r.assignment_rule assigned_node
  unfolding r.assignment_rule
  assignment_covered = three (selectors_covered levels) one (expression_covered levels)

  named_statement_covered : Covers E r.named_statement_rule node.plain_node
  unfolding r.named_statement_rule
  named_statement_covered = made (λ (n, rest). named_statement n rest) (λ (n, rest). named_statement_is n rest)
      (pair one (fork actuals_covered (maybe assignment_covered)))

  -- ---- lists of statements

  next_statement_covered : (closer : Closer) → Covers E (r.next_statement_rule closer) node.next_statement_node
  unfolding r.next_statement_rule
  next_statement_covered closer =
      made (λ (semicolon, statement). record { semicolon = semicolon; statement = statement }) (λ _. refl) (pair one (levels.statement false closer))

  statements_covered : (closer : Closer) → Covers E (r.statements_rule closer) node.statements_node
  unfolding r.statements_rule
  statements_covered closer =
      made (λ (first, others). roll-Statements (record { first = first; others = others })) (λ (first, others). statements_rolled first others)
      (pair (levels.statement false closer) (listed (parts.next_statement closer) (next_statement_covered closer)))

  pub compound_covered : Covers E r.compound_rule node.compound_node
  unfolding r.compound_rule
  compound_covered = made (λ (begin, statements, end). CompoundTree' begin statements end) (λ _. refl) (three one (statements_covered by_end) one)

  repeat_covered : Covers E r.repeat_rule node.repeat_node
  unfolding r.repeat_rule
  repeat_covered = made (λ (word, statements, until, condition). RepeatTree' word statements until condition) (λ _. refl)
      (four one (statements_covered by_until) one (expression_covered levels))

  -- ---- choices

  else_covered : (inner : Bool) (closer : Closer) → Covers E (r.else_rule inner closer) node.else_node
  unfolding r.else_rule r.alternative_rule
  else_covered inner closer =
      greedily None' refl (made (λ (word, statement). Some' word statement.label statement.plain) (λ _. refl) (pair one (levels.statement inner closer)))

  if_covered : (inner : Bool) (closer : Closer) → Covers E (r.if_rule inner closer) node.if_node
  unfolding r.if_rule
  if_covered inner closer =
      made (λ (word, condition, then, statement, alternative). IfTree' word condition then statement.label statement.plain alternative) (λ _. refl)
      (five one (expression_covered levels) one (levels.statement true closer) (else_covered inner closer))

  branch_covered : Covers E r.branch_rule node.branch_node
  unfolding r.branch_rule
  branch_covered = made (λ (constants, colon, statement). record { constants = constants; colon = colon; statement = statement }) (λ _. refl)
      (three constants_covered one (levels.statement false by_end))

  case_covered : Covers E r.case_rule node.case_node
  unfolding r.case_rule
  case_covered =
      made (λ (word, selector, of, first, rest). roll-Case (record {
        word = word;
        selector = selector;
        of = of;
        first = first;
        others = rest.0.0;
        semicolon = rest.0.1;
        end = rest.1;
      }))
      (λ (word, selector, of, first, rest). case_rolled word selector of first rest.0.0 rest.0.1 rest.1)
      (five one (expression_covered levels) one branch_covered (pair (semicolons node.branch_step
      (made (λ (semicolon, branch). record { semicolon = semicolon; branch = branch }) (λ _. refl) (pair one branch_covered))) one))

  -- ---- loops

  while_covered : (inner : Bool) (closer : Closer) → Covers E (r.while_rule inner closer) node.plain_node
  unfolding r.while_rule
  while_covered inner closer =
      made (λ (word, condition, do_word, statement). While' (boxed tt) word condition do_word statement.label statement.plain) (λ _. refl)
      (four one (expression_covered levels) one (levels.statement inner closer))

  for_covered : (inner : Bool) (closer : Closer) → Covers E (r.for_rule inner closer) node.plain_node
  unfolding r.for_rule
  for_covered inner closer =
      made (λ (word, name, becomes, initial, rest). For' (boxed tt) word name becomes initial rest.0 rest.1 rest.2 rest.3.label rest.3.plain) (λ _. refl)
      (five one one one (expression_covered levels) (four direction_covered (expression_covered levels) one (levels.statement inner closer)))

  next_access_covered : Covers E r.next_access_rule node.next_access_node
  unfolding r.next_access_rule
  next_access_covered = made (λ (comma, access). record { comma = comma; access = access }) (λ _. refl) (pair one (access_covered levels))

  with_covered : (inner : Bool) (closer : Closer) → Covers E (r.with_rule inner closer) node.plain_node
  unfolding r.with_rule
  with_covered inner closer =
      made (λ (word, first, others, do_word, statement). With' (boxed tt) word first others do_word statement.label statement.plain) (λ _. refl)
      (five one (access_covered levels) (listed parts.next_access next_access_covered) one (levels.statement inner closer))

  -- ---- statements

  label_covered : Covers E r.label_rule node.label_node
  unfolding r.label_rule
  label_covered = choose (made (λ (number, colon). Some (record { number = number; colon = colon })) (λ _. refl) (pair one one)) (absent None refl)

  plain_covered : (inner : Bool) (closer : Closer) → Covers E (r.plain_rule inner closer) node.plain_node
  unfolding r.plain_rule r.counted_rule r.goto_rule
  plain_covered inner closer =
      choose named_statement_covered
      (choose (made (λ (word, label). Goto word label) (λ _. refl) (pair one one))
      (choose (made (Compound' (boxed tt)) (λ _. refl) compound_covered)
      (choose (made (If' (boxed tt)) (λ _. refl) (if_covered inner closer))
      (choose (made (Case' (boxed tt)) (λ _. refl) case_covered)
      (choose (made (Repeat' (boxed tt)) (λ _. refl) repeat_covered)
      (choose (while_covered inner closer)
      (choose (for_covered inner closer)
      (choose (with_covered inner closer)
      (absent Empty refl)))))))))

  pub statement_covered : (inner : Bool) (closer : Closer) → Covers E (r.statement_rule inner closer) node.statement_node
  unfolding r.statement_rule
  statement_covered inner closer =
      made (λ (label, plain). record { label = label; plain = plain }) (λ _. refl) (pair label_covered (plain_covered inner closer))
