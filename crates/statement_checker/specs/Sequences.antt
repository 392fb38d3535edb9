-- The rows of statements, their lines, and lists of statements and of accesses.
use Rattle.std.specs.Prelude.{◌-◌, ℕ, None, Option, Some, length}
use Rattle.core_program.specs.declared.rows.{ItemRow.ItemRow, Row.Row, StatementRow.StatementRow}
use Rattle.check_steps.specs.Known.{Known, line_at}
use Rattle.check_steps.specs.Steps.{◌>>=◌, Step, give, look, put}
use Rattle.statement_checker.specs.declared.sequences.{Branching.Branching, Element.Element}

-- ---- lines

-- the first token of a statement that begins with a word, or before it with a label
abbrev pub first_token : Option ℕ → ℕ → ℕ
first_token None word = word
first_token (Some label) word = label

-- the line of a statement, which is that of its first token
abbrev pub line_of : Known → Option ℕ → ℕ → ℕ
line_of k label word = line_at k (first_token label word)

-- ---- rows

-- a statement's row at its number, which is given
unfoldable pub stated : ℕ → StatementRow → Step ℕ
stated number s = do
  _ ← put number (Row.Statement s)
  give number

-- An empty statement has no token of its own. The row of all of them stands at the last token, the end of the source.
unfoldable pub empty : Step ℕ
empty = do
  last ← look (λ k. length k.words - 1)
  stated last StatementRow.Empty

-- an if statement without else part, once its condition and its statement are checked
unfoldable pub if_row : Branching → Step ℕ
if_row b = do
  line ← look (λ k. line_of k b.label b.word)
  stated b.word (StatementRow.If line b.condition b.then)

unfoldable pub if_else_row : Branching → ℕ → Step ℕ
if_else_row b otherwise = do
  line ← look (λ k. line_of k b.label b.word)
  stated b.word (StatementRow.IfElse line b.condition b.then otherwise)

unfoldable pub repeat_row : Option ℕ → ℕ → ℕ → ℕ → Step ℕ
repeat_row label word until condition = do
  line ← look (λ k. line_of k label word)
  stated until (StatementRow.Repeat line word condition)

unfoldable pub while_row : Option ℕ → ℕ → ℕ → ℕ → Step ℕ
while_row label word condition body = do
  line ← look (λ k. line_of k label word)
  stated word (StatementRow.While line condition body)

-- ---- lists

-- the last element of a list, which goes on at a number; at 0 it ends
unfoldable pub link_element : Element → ℕ → Step (Unit {0})
link_element last next = put last.slot (Row.Item (ItemRow.Element last.item next))

-- a compound statement, at its `end`, with the list of its statements up to the last one
unfoldable pub compound_row : ℕ → Element → ℕ → Step ℕ
compound_row statements last end = do
  _ ← link_element last 0
  stated end (StatementRow.Compound statements)

-- one more element after the last one, at a slot
unfoldable pub add_element : Element → ℕ → ℕ → Step Element
add_element last slot item = do
  _ ← link_element last slot
  give (record { slot = slot; item = item })
