-- Statements with equal nodes have equal trees.
use Rattle.std.proofs.Common.{◌≡◌, ℕ, None, Option, Some, ap, arith, map, option_map, refl, sym}
use Rattle.std.specs.Global.{Box}
use Rattle.grammar.specs.{Terminals.place, declared.terminals.Terminal.Terminal}
use Rattle.pas_tree.proofs.DenotersTold.{last_right, last_told}
use Rattle.pas_tree.proofs.ExpressionsTold.{access_told, expression_told, selector_items_told}
use Rattle.pas_tree.proofs.Told.{all_told, constants_told, direction_told, form, lead, left, left_number, number, rest, right, row_form, second}
use Rattle.pas_tree.specs.{Denoters.last_semicolon_node, Expressions.selector_node}
use Rattle.pas_tree.specs.StatementTrees as tree
use Rattle.pas_tree.specs.Statements as node
use Rattle.pas_tree.specs.declared.statements.{Actual.Actual, Actuals.Actuals, Assignment.Assignment, Label.Label, NextAccess.NextAccess, NextActual.NextActual}
use Rattle.pas_tree.specs.declared.statements.{Repeat.Repeat, Repeat.Repeat' as RepeatOf', Width.Width}
use Rattle.pas_tree.specs.declared.statements.Case.{Case, Case' as CaseOf', Row_of-NextBranch, end_of-NextBranch, more_of-NextBranch}
use Rattle.pas_tree.specs.declared.statements.Compound.{Compound, Compound' as CompoundOf'}
use Rattle.pas_tree.specs.declared.statements.If.{Held-If-alternative, If, If' as IfOf', None', Some'}
use Rattle.pas_tree.specs.declared.statements.Plain.{Assignment as Assignment', Call, Case', Compound', Empty, For', Goto, If', Plain, Repeat', While', With'}
use Rattle.pas_tree.specs.declared.statements.Statements.{Row_of-NextStatement, Statements, Statements', end_of-NextStatement, more_of-NextStatement}

label_told : (a b : Option Label) → node.label_node a ≡ node.label_node b → a ≡ b
label_told None None q = refl
label_told (Some a) (Some b) q = λ i. Some (record { number = ap left_number q i; colon = ap number (ap right q) i })
label_told a b q = absurd (omega (arith, ap form q))

width_told : (a b : Option Width) → node.width_node a ≡ node.width_node b → option_map tree.width_tree a ≡ option_map tree.width_tree b
width_told None None q = refl
width_told (Some a) (Some b) q = λ i. Some (record { colon = ap left_number q i; width = expression_told a.width b.width (ap right q) i })
width_told a b q = absurd (omega (arith, ap form q))

actual_told : (a b : Actual) → node.actual_node a ≡ node.actual_node b → tree.actual_tree a ≡ tree.actual_tree b
actual_told a b q =
    λ i. record { expression = expression_told a.expression b.expression (ap left q) i; width = width_told a.width b.width (ap right q) i }

next_actual_told : (a b : NextActual) → node.next_actual_node a ≡ node.next_actual_node b → tree.next_actual_tree a ≡ tree.next_actual_tree b
next_actual_told a b q = λ i. record { comma = ap left_number q i; actual = actual_told a.actual b.actual (ap right q) i }

actuals_told : (a b : Actuals) → node.actuals_node a ≡ node.actuals_node b → tree.actuals_tree a ≡ tree.actuals_tree b
actuals_told a b q =
    λ i. record {
      left = ap left_number q i;
      first = actual_told a.first b.first (ap second q) i;
      others = all_told node.next_actual_node tree.next_actual_tree next_actual_told a.others.items b.others.items (ap left (ap rest q)) i;
      right = ap number (ap right (ap rest q)) i;
    }

call_told : (a b : Option (Box Actuals)) → node.call_node a ≡ node.call_node b → tree.held_actuals_tree a ≡ tree.held_actuals_tree b
call_told None None q = refl
call_told (Some a) (Some b) q = λ i. Some (actuals_told a.value b.value q i)
call_told a b q = absurd (omega (arith, ap form q))

assignment_told : (a b : Assignment) → node.assignment_node a ≡ node.assignment_node b → tree.assignment_tree a ≡ tree.assignment_tree b
assignment_told a b q =
    λ i. record {
      target = record {
        name = ap left_number q i;
        selectors = selector_items_told a.target.selectors.items b.target.selectors.items (ap second q) i;
      };
      becomes = ap left_number (ap rest q) i;
      value = expression_told a.value b.value (ap right (ap rest q)) i;
    }

next_access_told : (a b : NextAccess) → node.next_access_node a ≡ node.next_access_node b → tree.next_access_tree a ≡ tree.next_access_tree b
next_access_told a b q = λ i. record { comma = ap left_number q i; access = access_told a.access b.access (ap right q) i }

-- ---- first terminals

abbrev plain_place : Plain → ℕ
plain_place Empty = 59
plain_place (Assignment' a) = place Terminal.Name
plain_place (Call n a) = place Terminal.Name
plain_place (Goto n l) = place Terminal.WGoto
plain_place (Compound' _ a) = place Terminal.WBegin
plain_place (If' _ a) = place Terminal.WIf
plain_place (Case' _ a) = place Terminal.WCase
plain_place (Repeat' _ a) = place Terminal.WRepeat
plain_place (While' _ n e o l a) = place Terminal.WWhile
plain_place (For' _ n c x e d g o l a) = place Terminal.WFor
plain_place (With' _ n e x o l a) = place Terminal.WWith

plain_lead : (p : Plain) → lead (node.plain_node p) ≡ plain_place p
plain_lead (Compound' _ (CompoundOf' n a c)) = refl
plain_lead (If' _ (IfOf' n e o l a x)) = refl
plain_lead (Case' _ (CaseOf' n e o c x l a _ r u z)) = refl
plain_lead (Repeat' _ (RepeatOf' n a u e)) = refl
plain_lead p = refl

-- an assignment is no call
no_call : (a : Assignment) (n : ℕ) (b : Option (Box Actuals)) → node.assignment_node a ≡ node.plain_node (Call n b) → ⊥
no_call a n None q = absurd (omega (arith, ap form (ap right q)))
no_call a n (Some b) q = absurd (omega (arith, ap form (ap second q), row_form (map selector_node a.target.selectors.items)))

mutual
  plain_told : (x y : Plain) → node.plain_node x ≡ node.plain_node y → tree.plain_tree x ≡ tree.plain_tree y
  plain_told Empty Empty q = refl
  plain_told (Assignment' a) (Assignment' b) q = λ i. tree.an_assignment (assignment_told a.value b.value q i)
  plain_told (Call n a) (Call m b) q = λ i. tree.a_procedure_call (ap left_number q i) (call_told a b (ap right q) i)
  plain_told (Assignment' a) (Call m b) q = absurd (no_call a.value m b q)
  plain_told (Call n a) (Assignment' b) q = absurd (no_call b.value n a (sym q))
  plain_told (Goto n l) (Goto m k) q = λ i. tree.a_goto (ap left_number q i) (ap number (ap right q) i)
  plain_told (Compound' _ a) (Compound' _ b) q = λ i. tree.a_compound (compound_told a b q i)
  plain_told (If' _ a) (If' _ b) q = λ i. tree.an_if (if_told a b q i)
  plain_told (Case' _ a) (Case' _ b) q = λ i. tree.a_case (case_told a b q i)
  plain_told (Repeat' _ a) (Repeat' _ b) q = λ i. tree.a_repeat (repeat_told a b q i)
  plain_told (While' _ n e o l a) (While' _ m f p k b) q =
      let body = ap right (ap rest q) in
      λ i. tree.a_while (ap left_number q i) (expression_told e f (ap second q) i) (ap left_number (ap rest q) i)
      (tree.a_statement (label_told l k (ap left body) i) (plain_told a b (ap right body) i))
  plain_told (For' _ n c x e d g o l a) (For' _ m i y f h j p k b) q =
      let range = ap right (ap rest q) in
      let body = ap rest (ap rest range) in
      λ v. tree.a_for (ap left_number q v) (ap number (ap second q) v) (ap left_number (ap rest q) v) (expression_told e f (ap left range) v)
      (direction_told d h (ap second range) v) (expression_told g j (ap left (ap rest range)) v) (ap number (ap second (ap rest range)) v)
      (tree.a_statement (label_told l k (ap left body) v) (plain_told a b (ap right body) v))
  plain_told (With' _ n e x o l a) (With' _ m f y p k b) q =
      let body = ap rest (ap rest q) in
      λ i. tree.a_with (ap left_number q i) (access_told e f (ap second q) i)
      (all_told node.next_access_node tree.next_access_tree next_access_told x.items y.items (ap left (ap rest q)) i)
      (ap number (ap second (ap rest q)) i) (tree.a_statement (label_told l k (ap left body) i) (plain_told a b (ap right body) i))
  plain_told x y q = absurd (omega (arith, ap lead q, plain_lead x, plain_lead y))

  pub compound_told : (x y : Compound) → node.compound_node x ≡ node.compound_node y → tree.compound_tree x ≡ tree.compound_tree y
  compound_told (CompoundOf' n a c) (CompoundOf' m b d) q =
      λ i. tree.compound_statement (ap left_number q i) (statements_told a b (ap second q) i) (ap number (ap rest q) i)

  statements_told : (x y : Statements) → node.statements_node x ≡ node.statements_node y → tree.statements_tree x ≡ tree.statements_tree y
  statements_told (Statements' l a _ r) (Statements' k b _ s) q =
      let first = ap left q in
      λ i. tree.statement_sequence (tree.a_statement (label_told l k (ap left first) i) (plain_told a b (ap right first) i))
      (more_statements_told r s (ap right q) i)

  more_statements_told : {m n : _} (r : Row_of-NextStatement m) (s : Row_of-NextStatement n) → node.more_statements_node r ≡ node.more_statements_node s
      → tree.statement_row r ≡ tree.statement_row s
  more_statements_told end_of-NextStatement end_of-NextStatement q = refl
  more_statements_told (more_of-NextStatement n l a r) (more_of-NextStatement m k b s) q =
      let here = ap left q in
      λ i. tree.more_statements (ap left_number here i) (tree.a_statement (label_told l k (ap second here) i) (plain_told a b (ap rest here) i))
      (more_statements_told r s (ap right q) i)
  more_statements_told r s q = absurd (omega (arith, ap form q))

  if_told : (x y : If) → node.if_node x ≡ node.if_node y → tree.if_tree x ≡ tree.if_tree y
  if_told (IfOf' n e o l a x) (IfOf' m f p k b y) q =
      let body = ap second (ap rest q) in
      λ i. tree.if_statement (ap left_number q i) (expression_told e f (ap second q) i) (ap left_number (ap rest q) i)
      (tree.a_statement (label_told l k (ap left body) i) (plain_told a b (ap right body) i)) (else_told x y (ap rest (ap rest q)) i)

  else_told : (x y : Held-If-alternative) → node.else_node x ≡ node.else_node y → tree.else_tree x ≡ tree.else_tree y
  else_told None' None' q = refl
  else_told (Some' n l a) (Some' m k b) q =
      λ i. tree.an_else (ap left_number q i) (tree.a_statement (label_told l k (ap second q) i) (plain_told a b (ap rest q) i))
  else_told x y q = absurd (omega (arith, ap form q))

  case_told : (x y : Case) → node.case_node x ≡ node.case_node y → tree.case_tree x ≡ tree.case_tree y
  case_told (CaseOf' n e o c x l a _ r u z) (CaseOf' m f p d y k b _ s v w) q =
      let first = ap second (ap rest q) in
      let last = ap rest (ap rest q) in
      let branches = branches_told r s u v (ap left last) in
      λ i. tree.case_statement (ap left_number q i) (expression_told e f (ap second q) i) (ap left_number (ap rest q) i)
      (tree.a_branch (constants_told c d (ap left first) i) (ap number (ap second first) i)
      (tree.a_statement (label_told l k (ap left (ap rest first)) i) (plain_told a b (ap right (ap rest first)) i)))
      (branches.0 i) (branches.1 i) (ap number (ap right last) i)

  branches_told : {m n : _} (r : Row_of-NextBranch m) (s : Row_of-NextBranch n) (u v : Option ℕ)
      → node.branches_node r (last_semicolon_node u) ≡ node.branches_node s (last_semicolon_node v) → (tree.branch_row r ≡ tree.branch_row s) × (u ≡ v)
  branches_told end_of-NextBranch end_of-NextBranch u v q = (refl, last_told u v q)
  branches_told (more_of-NextBranch n c x l a r) (more_of-NextBranch m d y k b s) u v q =
      let branch = ap second q in
      let others = branches_told r s u v (ap rest q) in (
        λ i. tree.more_branches (ap left_number q i) (tree.a_branch (constants_told c d (ap left branch) i) (ap number (ap second branch) i)
            (tree.a_statement (label_told l k (ap left (ap rest branch)) i) (plain_told a b (ap right (ap rest branch)) i))) (others.0 i),
        others.1,
      )
  branches_told r s u v q = absurd (omega (arith, ap form (ap right q), (last_right u).0, (last_right v).0))

  repeat_told : (x y : Repeat) → node.repeat_node x ≡ node.repeat_node y → tree.repeat_tree x ≡ tree.repeat_tree y
  repeat_told (RepeatOf' n a u e) (RepeatOf' m b v f) q =
      λ i. tree.repeat_statement (ap left_number q i) (statements_told a b (ap second q) i) (ap left_number (ap rest q) i)
      (expression_told e f (ap right (ap rest q)) i)
