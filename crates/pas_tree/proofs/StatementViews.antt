-- The trees of statements by the fields of what the code holds.
use Rattle.std.proofs.Common.{◌∙◌, ◌≡◌, None, Option, Some, ap, refl}
use Rattle.pas_tree.specs.{ConstantTrees.constants_tree, ExpressionTrees.expression_tree}
use Rattle.pas_tree.specs.StatementTrees as tree
use Rattle.pas_tree.specs.declared.statements.{Compound.Compound, Compound.is-Compound', Compound.out-Compound, Else.Else, If.If, If.back-If-alternative}
use Rattle.pas_tree.specs.declared.statements.{If.is-If', If.out-If, Repeat.Repeat, Repeat.is-Repeat', Repeat.out-Repeat}
use Rattle.pas_tree.specs.declared.statements.Case.{Case, Row_of-NextBranch, end_of-NextBranch, is-Case', items-the_row-NextBranch}
use Rattle.pas_tree.specs.declared.statements.Case.{items_hidden-the_row-NextBranch-0, more_of-NextBranch, out-Case}
use Rattle.pas_tree.specs.declared.statements.Plain.TheBlock.{hidden-the_row-NextBranch-0, hidden-the_row-NextStatement-1}
use Rattle.pas_tree.specs.declared.statements.Statements.{Row_of-NextStatement, Statements, end_of-NextStatement, is-Statements', items-the_row-NextStatement}
use Rattle.pas_tree.specs.declared.statements.Statements.{items_hidden-the_row-NextStatement-1, more_of-NextStatement, out-Statements}

pub compound_view : (c : Compound) → tree.compound_tree c
    ≡ tree.compound_statement (out-Compound c).begin (tree.statements_tree (out-Compound c).statements) (out-Compound c).end
compound_view c = ap tree.compound_tree (is-Compound' c)

statement_rows : (n : _) (r : Row_of-NextStatement n) → tree.statement_row r ≡ tree.statement_trees (items-the_row-NextStatement n r)
statement_rows _ end_of-NextStatement = refl
statement_rows _ (more_of-NextStatement semicolon label p rest) =
    ap (tree.more_statements semicolon (tree.a_statement label (tree.plain_tree p))) (statement_rows _ rest)

pub statements_view : (s : Statements) → tree.statements_tree s
    ≡ tree.statement_sequence (tree.statement_tree (out-Statements s).first) (tree.statement_trees (out-Statements s).others.items)
statements_view s =
    let o = out-Statements s in
    ap tree.statements_tree (is-Statements' s)
    ∙ ap (tree.statement_sequence (tree.statement_tree o.first)) (statement_rows _ (hidden-the_row-NextStatement-1 o.others)
    ∙ ap tree.statement_trees (items_hidden-the_row-NextStatement-1 o.others))

else_held : (o : Option Else) → tree.else_tree (back-If-alternative o) ≡ tree.else_in o
else_held None = refl
else_held (Some e) = refl

pub if_view : (x : If) → tree.if_tree x
    ≡ tree.if_statement (out-If x).word (expression_tree (out-If x).condition) (out-If x).«then» (tree.statement_tree (out-If x).statement)
    (tree.else_in (out-If x).alternative)
if_view x =
    let o = out-If x in
    ap tree.if_tree (is-If' x)
    ∙ ap (tree.if_statement o.word (expression_tree o.condition) o.«then» (tree.statement_tree o.statement)) (else_held o.alternative)

branch_rows : (n : _) (r : Row_of-NextBranch n) → tree.branch_row r ≡ tree.branch_trees (items-the_row-NextBranch n r)
branch_rows _ end_of-NextBranch = refl
branch_rows _ (more_of-NextBranch semicolon constants colon label p rest) =
    ap (tree.more_branches semicolon (tree.a_branch (constants_tree constants) colon (tree.a_statement label (tree.plain_tree p)))) (branch_rows _ rest)

pub case_view : (x : Case) → tree.case_tree x
    ≡ tree.case_statement (out-Case x).word (expression_tree (out-Case x).selector) (out-Case x).«of» (tree.branch_tree (out-Case x).first)
    (tree.branch_trees (out-Case x).others.items) (out-Case x).semicolon (out-Case x).end
case_view x =
    let o = out-Case x in
    ap tree.case_tree (is-Case' x)
    ∙ ap (λ xs. tree.case_statement o.word (expression_tree o.selector) o.«of» (tree.branch_tree o.first) xs o.semicolon o.end)
    (branch_rows _ (hidden-the_row-NextBranch-0 o.others)
    ∙ ap tree.branch_trees (items_hidden-the_row-NextBranch-0 o.others))

pub repeat_view : (x : Repeat) → tree.repeat_tree x
    ≡ tree.repeat_statement (out-Repeat x).word (tree.statements_tree (out-Repeat x).statements) (out-Repeat x).until
    (expression_tree (out-Repeat x).condition)
repeat_view x = ap tree.repeat_tree (is-Repeat' x)

pub ruleset statement_views = (compound_view, if_view, case_view, repeat_view)
