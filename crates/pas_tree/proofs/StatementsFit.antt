-- Every statement's node fits its rule.
use Rattle.std.proofs.Common.{◌∷◌, [], ℕ, Bool, None, Option, Some, false, refl, true}
use Rattle.std.specs.Global.{Box}
use Rattle.grammar.specs.{Nodes.Pair, Nodes.leaf, declared.terminals.Terminal.Terminal}
use Rattle.grammar.specs.Grammars.{Closer, Grammar, by_end, by_until, many, nothing, seq, series, word}
use Rattle.pas_tree.proofs.{ConstantsFit.constants_fits, Fits.series_none, Fits.taken}
use Rattle.pas_tree.proofs.ExpressionsFit.{access_fits, expression_fits, selector_list_fits}
use Rattle.pas_tree.proofs.Fits.{Fits, absent, cons, deeper, direction_fits, empty, left, left_out, listed, nil, one, pair, right, series_last, series_more}
use Rattle.pas_tree.specs.Denoters.{last_semicolon_node}
use Rattle.pas_tree.specs.Rules as r
use Rattle.pas_tree.specs.Statements as node
use Rattle.pas_tree.specs.declared.statements.{Actual.Actual, Actuals.Actuals, Assignment.Assignment, Compound.Compound, Compound.Compound' as CompoundTree'}
use Rattle.pas_tree.specs.declared.statements.{Label.Label, Repeat.Repeat, Repeat.Repeat' as RepeatTree', Width.Width}
use Rattle.pas_tree.specs.declared.statements.Case.{Case, Case' as CaseTree', Row_of-NextBranch, end_of-NextBranch, more_of-NextBranch}
use Rattle.pas_tree.specs.declared.statements.If.{Held-If-alternative, If, If' as IfTree', None', Some'}
use Rattle.pas_tree.specs.declared.statements.Plain.{Assignment as Assignment', Call, Case', Compound', Empty, For', Goto, If', Plain, Repeat', While', With'}
use Rattle.pas_tree.specs.declared.statements.Statements.{Row_of-NextStatement, Statements, Statements', end_of-NextStatement, more_of-NextStatement}

label_fits : (l : Option Label) → Fits r.label_rule (node.label_node l)
unfolding r.label_rule
label_fits None = absent
label_fits (Some l) = left (pair (one refl) (one refl))

width_fits : (w : Option Width) → Fits (r.optional (Terminal.Colon ∷ []) (seq (word Terminal.Colon) r.expression_rule)) (node.width_node w)
width_fits None = absent
width_fits (Some w) = left (pair (one refl) (expression_fits w.width))

actual_fits : (a : Actual) → Fits r.actual_rule (node.actual_node a)
unfolding r.actual_rule
actual_fits a = pair (expression_fits a.expression) (width_fits a.width)

actuals_fits : (a : Actuals) → Fits r.actuals_rule (node.actuals_node a)
unfolding r.actuals_rule r.next_actual_rule
actuals_fits a =
    pair (one refl) (pair (actual_fits a.first) (pair (listed node.next_actual_node (λ x. pair (one refl) (actual_fits x.actual)) a.others.items) (one refl)))

call_fits : (n : ℕ) (a : Option (Box Actuals)) → Fits r.named_statement_rule (Pair (leaf Terminal.Name n) (node.call_node a))
unfolding r.named_statement_rule
call_fits n None = pair (one refl) (right absent)
call_fits n (Some a) = pair (one refl) (left (actuals_fits a.value))

assignment_fits : (a : Assignment) → Fits r.named_statement_rule (node.assignment_node a)
unfolding r.named_statement_rule r.assignment_rule
assignment_fits a = pair (one refl) (right (left (pair (selector_list_fits a.target.selectors.items) (pair (one refl) (expression_fits a.value)))))

abbrev branches : Grammar
branches = series Terminal.Semicolon r.constant_starts r.branch_rule nothing

last_branch_fits : (n : Option ℕ) → Fits branches (last_semicolon_node n)
last_branch_fits None = series_none
last_branch_fits (Some n) = series_last (one refl) empty

mutual
  unfolding r.plain_rule r.counted_rule r.goto_rule r.while_rule r.for_rule r.with_rule r.next_access_rule r.compound_rule r.statements_rule
      r.next_statement_rule r.if_rule r.else_rule r.alternative_rule r.case_rule r.branch_rule r.repeat_rule r.statement_rule

  plain_fits : (p : Plain) (inner : Bool) (closer : Closer) → Fits (r.plain_rule inner closer) (node.plain_node p)
  plain_fits Empty inner closer = right (right (right (right (right (right (right (right absent)))))))
  plain_fits (Assignment' a) inner closer = left (assignment_fits a.value)
  plain_fits (Call name actuals) inner closer = left (call_fits name actuals)
  plain_fits (Goto word label) inner closer = right (left (pair (one refl) (one refl)))
  plain_fits (Compound' _ c) inner closer = right (right (left (compound_fits c)))
  plain_fits (If' _ i) inner closer = right (right (right (left (if_fits i inner closer))))
  plain_fits (Case' _ c) inner closer = right (right (right (right (left (case_fits c)))))
  plain_fits (Repeat' _ x) inner closer = right (right (right (right (right (left (repeat_fits x))))))
  plain_fits (While' _ word condition do_word label plain) inner closer =
      right (right (right (right (right (right (left
      (pair (one refl) (pair (expression_fits condition) (pair (one refl) (deeper (pair (label_fits label) (plain_fits plain inner closer))))))))))))
  plain_fits (For' _ word name becomes initial direction last do_word label plain) inner closer =
      right (right (right (right (right (right (right (left
      (pair (one refl) (pair (one refl) (pair (one refl) (pair (expression_fits initial) (pair (direction_fits direction) (pair (expression_fits last)
      (pair (one refl) (deeper (pair (label_fits label) (plain_fits plain inner closer)))))))))))))))))
  plain_fits (With' _ word first others do_word label plain) inner closer =
      right (right (right (right (right (right (right (right (left
      (pair (one refl) (pair (access_fits first) (pair (listed node.next_access_node (λ x. pair (one refl) (access_fits x.access)) others.items)
      (pair (one refl) (deeper (pair (label_fits label) (plain_fits plain inner closer)))))))))))))))

  pub compound_fits : (c : Compound) → Fits r.compound_rule (node.compound_node c)
  compound_fits (CompoundTree' begin statements end) = pair (one refl) (pair (statements_fits statements by_end) (one refl))

  statements_fits : (s : Statements) (closer : Closer) → Fits (r.statements_rule closer) (node.statements_node s)
  statements_fits (Statements' label plain _ others) closer =
      pair (deeper (pair (label_fits label) (plain_fits plain false closer))) (more_statements_fits others closer)

  more_statements_fits : {m : _} (t : Row_of-NextStatement m) (closer : Closer)
      → Fits (many (Terminal.Semicolon ∷ []) (r.next_statement_rule closer)) (node.more_statements_node t)
  more_statements_fits end_of-NextStatement closer = nil
  more_statements_fits (more_of-NextStatement semicolon label plain rest) closer =
      cons (pair (one refl) (deeper (pair (label_fits label) (plain_fits plain false closer)))) (more_statements_fits rest closer)

  if_fits : (i : If) (inner : Bool) (closer : Closer) → Fits (r.if_rule inner closer) (node.if_node i)
  if_fits (IfTree' word condition then label plain alternative) inner closer =
      pair (one refl) (pair (expression_fits condition) (pair (one refl)
      (pair (deeper (pair (label_fits label) (plain_fits plain true closer))) (else_fits alternative inner closer))))

  else_fits : (e : Held-If-alternative) (inner : Bool) (closer : Closer) → Fits (r.else_rule inner closer) (node.else_node e)
  else_fits None' inner closer = left_out
  else_fits (Some' word label plain) inner closer = taken (pair (one refl) (deeper (pair (label_fits label) (plain_fits plain inner closer))))

  case_fits : (c : Case) → Fits r.case_rule (node.case_node c)
  case_fits (CaseTree' word selector of constants colon label plain _ others semicolon end) =
      pair (one refl) (pair (expression_fits selector) (pair (one refl)
      (pair (pair (constants_fits constants) (pair (one refl) (deeper (pair (label_fits label) (plain_fits plain false by_end)))))
      (pair (branches_fits others semicolon) (one refl)))))

  branches_fits : {m : _} (t : Row_of-NextBranch m) (n : Option ℕ) → Fits branches (node.branches_node t (last_semicolon_node n))
  branches_fits end_of-NextBranch n = last_branch_fits n
  branches_fits (more_of-NextBranch semicolon constants colon label plain rest) n =
      series_more (one refl) (pair (constants_fits constants) (pair (one refl) (deeper (pair (label_fits label) (plain_fits plain false by_end)))))
      (branches_fits rest n)

  repeat_fits : (x : Repeat) → Fits r.repeat_rule (node.repeat_node x)
  repeat_fits (RepeatTree' word statements until condition) =
      pair (one refl) (pair (statements_fits statements by_until) (pair (one refl) (expression_fits condition)))
