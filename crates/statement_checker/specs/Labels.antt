-- Labels and gotos (6.8.1, 6.8.2.4).
--
-- A goto may lead to a statement around it, to one of a statement sequence around it, and to one of the outermost
-- sequence of a block around it. The row of a declared label counts the ways to the statements that it marks from where
-- the check stands, and says whether it marks one so far.
use Rattle.std.specs.Prelude.{if◌then◌else◌, ◌+◌, ◌-◌, ℕ, Bool, None, Option, Some, false, min, nat_eq, nat_lt, not}
use Rattle.std.specs.Prelude.{true}
use Rattle.pas_tree.specs.StatementTrees.{StatementTree, StatementTrees, StatementsTree}
use Rattle.pas_tree.specs.StatementTrees as tree
use Rattle.pas_tree.specs.declared.statements.{Label.Label, NextStatement.NextStatement}
use Rattle.core_program.specs.declared.rows.{NameRow.NameRow, Row.Row, StatementRow.StatementRow}
use Rattle.check_steps.specs.Known.{Known, find_label, label_at, row_at}
use Rattle.check_steps.specs.Steps.{◌>>=◌, Step, give, late, look, put}
use Rattle.expression_checker.specs.Names.{levels_to}
use Rattle.statement_checker.specs.Sequences.{line_of, stated}

-- ---- declared labels

-- what stands where a label is declared
abbrev pub row_of : Known → Option ℕ → Row
row_of k None = Row.Nothing
row_of k (Some d) = row_at k d

-- how many links lead to the frame of the block that declares a label
abbrev pub levels_in : Known → ℕ → Row → ℕ
levels_in k frame (Row.Name (NameRow.Label marked value level ways)) = levels_to k frame level
levels_in k frame r = 0

-- the token that declares a token's label in the closest block around that does
abbrev pub label_of : Known → ℕ → ℕ → Option ℕ
label_of k frame token = find_label k frame (label_at k token)

-- the same if the closest block of all declares it: no link leads to its frame
abbrev pub own_label : Known → ℕ → ℕ → Option ℕ
own_label k frame token =
    let d = label_of k frame token in
    if nat_eq (levels_in k frame (row_of k d)) 0 then d else None

-- the row of a label where it is declared
abbrev pub put_label : Option ℕ → Row → Step (Unit {0})
put_label None r = give tt
put_label (Some d) r = put d r

-- ---- which statements may be reached

-- how many ways lead to statements that a label marks
abbrev pub ways_in : Row → ℕ
ways_in (Row.Name (NameRow.Label marked value level ways)) = ways
ways_in r = 0

abbrev pub with_ways : Row → ℕ → Row
with_ways (Row.Name (NameRow.Label marked value level ways)) n = Row.Name (NameRow.Label marked value level n)
with_ways r n = r

-- from here on there is one more way to a statement with this label
unfoldable pub reach_label : ℕ → ℕ → Step (Unit {0})
reach_label frame token = do
  d ← look (λ k. own_label k frame token)
  r ← look (λ k. row_of k d)
  put_label d (with_ways r (min (ways_in r + 1) 4294967295))

-- from here on there is one way fewer
unfoldable pub leave : ℕ → ℕ → Step (Unit {0})
leave frame token = do
  d ← look (λ k. own_label k frame token)
  r ← look (λ k. row_of k d)
  put_label d (with_ways r (ways_in r - 1))

-- a step for a statement's label, if it has one
abbrev pub on_label : (ℕ → Step (Unit {0})) → Option Label → Step (Unit {0})
on_label f None = give tt
on_label f (Some l) = f l.number

abbrev pub on_statement : (ℕ → Step (Unit {0})) → StatementTree → Step (Unit {0})
on_statement f (tree.a_statement label plain) = on_label f label

abbrev pub on_others : (ℕ → Step (Unit {0})) → StatementTrees → Step (Unit {0})
on_others f tree.end_of_statements = give tt
on_others f (tree.more_statements semicolon s rest) = do
  _ ← on_statement f s
  on_others f rest

-- a step for each label in front of a statement of a sequence
abbrev pub each_label : (ℕ → Step (Unit {0})) → StatementsTree → Step (Unit {0})
each_label f (tree.statement_sequence first others) = do
  _ ← on_statement f first
  on_others f others

-- one more of what the code holds
unfoldable pub on_next : (ℕ → Step (Unit {0})) → Unit {0} → NextStatement → Step (Unit {0})
on_next f u n = on_label f n.statement.label

-- from here on there is one more way to each statement of a sequence
unfoldable pub reach_all : ℕ → StatementsTree → Step (Unit {0})
reach_all frame s = each_label (reach_label frame) s

-- from here on there is one way fewer
unfoldable pub leave_all : ℕ → StatementsTree → Step (Unit {0})
leave_all frame s = each_label (leave frame) s

-- ---- labelled statements

abbrev pub is_unmarked : Row → Bool
is_unmarked (Row.Name (NameRow.Label marked value level ways)) = not marked
is_unmarked r = false

abbrev pub marked_label : Row → Row
marked_label (Row.Name (NameRow.Label marked value level ways)) = Row.Name (NameRow.Label true value level ways)
marked_label r = r

-- rule 15: a statement's label is not declared in the closest block, or marks a second statement, at the label
unfoldable pub mark : ℕ → ℕ → Step (Unit {0})
mark frame token = do
  d ← look (λ k. own_label k frame token)
  r ← look (λ k. row_of k d)
  _ ← late 15 token (is_unmarked r)
  put_label d (marked_label r)

-- a labelled statement, at its label
unfoldable pub labelled : ℕ → ℕ → Step ℕ
labelled token n = do
  value ← look (λ k. label_at k token)
  stated token (StatementRow.Labelled value n)

-- ---- gotos

-- A goto, at its word. Rule 16: its label is not declared around it, or marks no statement that a goto there may reach,
-- at the label.
unfoldable pub jump : ℕ → Option ℕ → ℕ → ℕ → Step ℕ
jump frame label word token = do
  r ← look (λ k. row_of k (label_of k frame token))
  _ ← late 16 token (nat_lt 0 (ways_in r))
  value ← look (λ k. label_at k token)
  levels ← look (λ k. levels_in k frame r)
  line ← look (λ k. line_of k label word)
  stated word (StatementRow.Goto line value levels)
