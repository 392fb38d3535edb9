-- Statements as nodes.
use Rattle.std.specs.{Prelude.None, Prelude.Option, Prelude.Some, Prelude.map, Global.Box}
use Rattle.grammar.specs.Nodes.{Node, Nothing, Pair, SeriesPart, leaf, row}
use Rattle.grammar.specs.declared.terminals.Terminal.TheVariants as k
use Rattle.pas_tree.specs.{Constants.constants_node, Denoters.last_semicolon_node, Operators.direction_node}
use Rattle.pas_tree.specs.Expressions.{access_node, expression_node, selector_node}
use Rattle.pas_tree.specs.declared.statements.{Actual.Actual, Actuals.Actuals, Assignment.Assignment, Branch.Branch}
use Rattle.pas_tree.specs.declared.statements.{Case.more_of-NextBranch, Else.Else, For.For, Label.Label}
use Rattle.pas_tree.specs.declared.statements.{NextAccess.NextAccess, NextActual.NextActual, NextBranch.NextBranch}
use Rattle.pas_tree.specs.declared.statements.{Statement.Statement, While.While, Width.Width, With.With}
use Rattle.pas_tree.specs.declared.statements.Case.{Case, Case' as CaseTree', Row_of-NextBranch, end_of-NextBranch}
use Rattle.pas_tree.specs.declared.statements.Compound.{Compound, Compound' as CompoundTree'}
use Rattle.pas_tree.specs.declared.statements.If.{Held-If-alternative, If, If' as IfTree', None', Some'}
use Rattle.pas_tree.specs.declared.statements.NextStatement.{NextStatement}
use Rattle.pas_tree.specs.declared.statements.Plain.{Assignment as Assignment', Call, Case', Compound', Empty, For'}
use Rattle.pas_tree.specs.declared.statements.Plain.{Goto, If', Plain, Repeat', While', With'}
use Rattle.pas_tree.specs.declared.statements.Repeat.{Repeat, Repeat' as RepeatTree'}
use Rattle.pas_tree.specs.declared.statements.Statements.{Row_of-NextStatement, Statements, Statements'}
use Rattle.pas_tree.specs.declared.statements.Statements.{end_of-NextStatement, more_of-NextStatement}

abbrev pub label_node : Option Label → Node
label_node None = Nothing
label_node (Some l) = Pair (leaf k.Number l.number) (leaf k.Colon l.colon)

abbrev pub width_node : Option Width → Node
width_node None = Nothing
width_node (Some w) = Pair (leaf k.Colon w.colon) (expression_node w.width)

abbrev pub actual_node : Actual → Node
actual_node a = Pair (expression_node a.expression) (width_node a.width)

abbrev pub next_actual_node : NextActual → Node
next_actual_node n = Pair (leaf k.Comma n.comma) (actual_node n.actual)

abbrev pub actuals_node : Actuals → Node
actuals_node a = Pair (leaf k.LeftParen a.«open»)
    (Pair (actual_node a.first) (Pair (row (map next_actual_node a.others.items)) (leaf k.RightParen a.close)))

abbrev pub call_node : Option (Box Actuals) → Node
call_node None = Nothing
call_node (Some a) = actuals_node a.value

abbrev pub assignment_node : Assignment → Node
assignment_node a =
    Pair (leaf k.Name a.target.name) (Pair (row (map selector_node a.target.selectors.items))
    (Pair (leaf k.Becomes a.becomes) (expression_node a.value)))

abbrev pub next_access_node : NextAccess → Node
next_access_node n = Pair (leaf k.Comma n.comma) (access_node n.access)

abbrev mutual
  pub plain_node : Plain → Node
  plain_node Empty = Nothing
  plain_node (Assignment' a) = assignment_node a.value
  plain_node (Call name actuals) = Pair (leaf k.Name name) (call_node actuals)
  plain_node (Goto word label) = Pair (leaf k.WGoto word) (leaf k.Number label)
  plain_node (Compound' _ c) = compound_node c
  plain_node (If' _ i) = if_node i
  plain_node (Case' _ c) = case_node c
  plain_node (Repeat' _ r) = repeat_node r
  plain_node (While' _ word condition do_word label plain) =
      Pair (leaf k.WWhile word) (Pair (expression_node condition)
      (Pair (leaf k.WDo do_word) (Pair (label_node label) (plain_node plain))))
  plain_node (For' _ word name becomes initial direction last do_word label plain) =
      Pair (leaf k.WFor word) (Pair (leaf k.Name name) (Pair (leaf k.Becomes becomes) (Pair (expression_node initial)
      (Pair (direction_node direction) (Pair (expression_node last)
      (Pair (leaf k.WDo do_word) (Pair (label_node label) (plain_node plain))))))))
  plain_node (With' _ word first others do_word label plain) =
      Pair (leaf k.WWith word) (Pair (access_node first)
      (Pair (row (map next_access_node others.items))
      (Pair (leaf k.WDo do_word) (Pair (label_node label) (plain_node plain)))))

  pub compound_node : Compound → Node
  compound_node (CompoundTree' begin statements end) =
      Pair (leaf k.WBegin begin) (Pair (statements_node statements) (leaf k.WEnd end))

  pub statements_node : Statements → Node
  statements_node (Statements' label plain _ others) =
      Pair (Pair (label_node label) (plain_node plain)) (more_statements_node others)

  pub more_statements_node : {m : _} → Row_of-NextStatement m → Node
  more_statements_node end_of-NextStatement = Nothing
  more_statements_node (more_of-NextStatement semicolon label plain rest) =
      Pair (Pair (leaf k.Semicolon semicolon) (Pair (label_node label) (plain_node plain))) (more_statements_node rest)

  pub if_node : If → Node
  if_node (IfTree' word condition then label plain alternative) =
      Pair (leaf k.WIf word) (Pair (expression_node condition)
      (Pair (leaf k.WThen then) (Pair (Pair (label_node label) (plain_node plain)) (else_node alternative))))

  pub else_node : Held-If-alternative → Node
  else_node None' = Nothing
  else_node (Some' word label plain) = Pair (leaf k.WElse word) (Pair (label_node label) (plain_node plain))

  pub case_node : Case → Node
  case_node (CaseTree' word selector of constants colon label plain _ others semicolon end) =
      Pair (leaf k.WCase word) (Pair (expression_node selector) (Pair (leaf k.WOf of)
      (Pair (Pair (constants_node constants) (Pair (leaf k.Colon colon) (Pair (label_node label) (plain_node plain))))
      (Pair (branches_node others (last_semicolon_node semicolon)) (leaf k.WEnd end)))))

  pub branches_node : {m : _} → Row_of-NextBranch m → Node → Node
  branches_node end_of-NextBranch end = end
  branches_node (more_of-NextBranch semicolon constants colon label plain rest) end =
      Pair (leaf k.Semicolon semicolon) (Pair (Pair (constants_node constants)
      (Pair (leaf k.Colon colon) (Pair (label_node label) (plain_node plain)))) (branches_node rest end))

  pub repeat_node : Repeat → Node
  repeat_node (RepeatTree' word statements until condition) =
      Pair (leaf k.WRepeat word) (Pair (statements_node statements)
      (Pair (leaf k.WUntil until) (expression_node condition)))

-- ---- what is repeated

abbrev pub statement_node : Statement → Node
statement_node s = Pair (label_node s.label) (plain_node s.plain)

abbrev pub next_statement_node : NextStatement → Node
next_statement_node n = Pair (leaf k.Semicolon n.semicolon) (statement_node n.statement)

abbrev pub branch_node : Branch → Node
branch_node b = Pair (constants_node b.constants) (Pair (leaf k.Colon b.colon) (statement_node b.statement))

abbrev pub branch_step : NextBranch → SeriesPart
branch_step n = record { separator = leaf k.Semicolon n.semicolon; part = branch_node n.branch }

abbrev pub alternative_node : Else → Node
alternative_node e = Pair (leaf k.WElse e.word) (statement_node e.statement)

abbrev pub while_node : While → Node
while_node w = Pair (leaf k.WWhile w.word) (Pair (expression_node w.condition)
    (Pair (leaf k.WDo w.do_word) (statement_node w.statement)))

abbrev pub for_node : For → Node
for_node f =
    Pair (leaf k.WFor f.word) (Pair (leaf k.Name f.name)
    (Pair (leaf k.Becomes f.becomes) (Pair (expression_node f.initial)
    (Pair (direction_node f.direction) (Pair (expression_node f.last)
    (Pair (leaf k.WDo f.do_word) (statement_node f.statement)))))))

abbrev pub with_node : With → Node
with_node w =
    Pair (leaf k.WWith w.word) (Pair (access_node w.first)
    (Pair (row (map next_access_node w.others.items)) (Pair (leaf k.WDo w.do_word) (statement_node w.statement))))
