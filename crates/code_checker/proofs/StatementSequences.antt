-- What the steps of `Rattle.statement_checker.specs.Sequences` keep.
use Rattle.std.proofs.Common.{◌-◌, ℕ, Bool, Option, length}
use Rattle.core_program.specs.declared.rows.{ItemRow.ItemRow, Row.Row, StatementRow.StatementRow}
use Rattle.statement_checker.specs.Sequences.{add_element, compound_row, empty, if_else_row, if_row, line_of, link_element, repeat_row, stated, while_row}
use Rattle.statement_checker.specs.declared.sequences.{Branching.Branching, Element.Element}
use Rattle.code_checker.proofs.Steps.{Holds, bind-holds, give-holds, look-holds, put-holds}

pub stated-holds : {size : ℕ} {later : Bool} (number : ℕ) (s : StatementRow) → Holds size later (stated number s)
unfolding stated
stated-holds number s = bind-holds (put-holds number (Row.Statement s)) (λ _. give-holds number)

pub empty-holds : {size : ℕ} {later : Bool} → Holds size later (empty)
unfolding empty
empty-holds = bind-holds (look-holds (λ k. length k.words - 1)) (λ last. stated-holds last StatementRow.Empty)

pub if_row-holds : {size : ℕ} {later : Bool} (b : Branching) → Holds size later (if_row b)
unfolding if_row
if_row-holds b = bind-holds (look-holds (λ k. line_of k b.label b.word)) (λ line. stated-holds b.word (StatementRow.If line b.condition b.then))

pub if_else_row-holds : {size : ℕ} {later : Bool} (b : Branching) (otherwise : ℕ) → Holds size later (if_else_row b otherwise)
unfolding if_else_row
if_else_row-holds b otherwise = bind-holds (look-holds (λ k. line_of k b.label b.word)) (λ line.
    stated-holds b.word (StatementRow.IfElse line b.condition b.then otherwise))

pub repeat_row-holds : {size : ℕ} {later : Bool} (label : Option ℕ) (word : ℕ) (until : ℕ) (condition : ℕ)
    → Holds size later (repeat_row label word until condition)
unfolding repeat_row
repeat_row-holds label word until condition = bind-holds (look-holds (λ k. line_of k label word)) (λ line.
    stated-holds until (StatementRow.Repeat line word condition))

pub while_row-holds : {size : ℕ} {later : Bool} (label : Option ℕ) (word : ℕ) (condition : ℕ) (body : ℕ)
    → Holds size later (while_row label word condition body)
unfolding while_row
while_row-holds label word condition body = bind-holds (look-holds (λ k. line_of k label word)) (λ line.
    stated-holds word (StatementRow.While line condition body))

pub link_element-holds : {size : ℕ} {later : Bool} (last : Element) (next : ℕ) → Holds size later (link_element last next)
unfolding link_element
link_element-holds last next = put-holds last.slot (Row.Item (ItemRow.Element last.item next))

pub compound_row-holds : {size : ℕ} {later : Bool} (statements : ℕ) (last : Element) (end : ℕ) → Holds size later (compound_row statements last end)
unfolding compound_row
compound_row-holds statements last end = bind-holds (link_element-holds last 0) (λ _. stated-holds end (StatementRow.Compound statements))

pub add_element-holds : {size : ℕ} {later : Bool} (last : Element) (slot : ℕ) (item : ℕ) → Holds size later (add_element last slot item)
unfolding add_element
add_element-holds last slot item = bind-holds (link_element-holds last slot) (λ _. give-holds (record { slot = slot; item = item }))
