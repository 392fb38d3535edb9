-- What the steps of `Rattle.statement_checker.specs.Sequences` touch.
use Rattle.std.proofs.Common.{ℕ, Option, refl}
use Rattle.core_program.specs.declared.rows.{ItemRow.ItemRow, Row.Row, StatementRow.StatementRow}
use Rattle.check_steps.specs.{Known.Known, Steps.◌>>=◌, Steps.change, Steps.give, Steps.look}
use Rattle.statement_checker.specs.Sequences.{add_element, compound_row, empty, if_else_row, if_row, line_of, link_element, repeat_row, stated, while_row}
use Rattle.statement_checker.specs.declared.sequences.{Branching.Branching, Element.Element}
use Rattle.rule_laws.proofs.{Every.Of, Faces.Shown}
use Rattle.rule_laws.proofs.Touches.{Touches, bind-touches, give-touches, look-touches, put-touches, same_end}

pub stated-touches : {Q : ℕ → Type 0} {strict : Shown} (number : ℕ) (s : StatementRow) → Of Q number → Touches Q strict (stated number s)
unfolding stated
stated-touches number s number-in = bind-touches (put-touches number (Row.Statement s) number-in refl) (λ _. give-touches number)

pub empty-touches : {Q : ℕ → Type 0} {strict : Shown} → Touches Q strict (empty)
unfolding empty stated look ◌>>=◌ change give
empty-touches = record { same = λ k. same_end k (Row.Statement StatementRow.Empty) refl; told = λ k. tt }

pub if_row-touches : {Q : ℕ → Type 0} {strict : Shown} (b : Branching) → Of Q b.word → Touches Q strict (if_row b)
unfolding if_row
if_row-touches b word-in = bind-touches (look-touches (λ k. line_of k b.label b.word))
    (λ line. stated-touches b.word (StatementRow.If line b.condition b.then) word-in)

pub if_else_row-touches : {Q : ℕ → Type 0} {strict : Shown} (b : Branching) (otherwise : ℕ) → Of Q b.word → Touches Q strict (if_else_row b otherwise)
unfolding if_else_row
if_else_row-touches b otherwise word-in = bind-touches (look-touches (λ k. line_of k b.label b.word)) (λ line.
    stated-touches b.word (StatementRow.IfElse line b.condition b.then otherwise) word-in)

pub repeat_row-touches : {Q : ℕ → Type 0} {strict : Shown} (label : Option ℕ) (word : ℕ) (until : ℕ) (condition : ℕ) → Of Q until
    → Touches Q strict (repeat_row label word until condition)
unfolding repeat_row
repeat_row-touches label word until condition until-in = bind-touches (look-touches (λ k. line_of k label word)) (λ line.
    stated-touches until (StatementRow.Repeat line word condition) until-in)

pub while_row-touches : {Q : ℕ → Type 0} {strict : Shown} (label : Option ℕ) (word : ℕ) (condition : ℕ) (body : ℕ) → Of Q word
    → Touches Q strict (while_row label word condition body)
unfolding while_row
while_row-touches label word condition body word-in = bind-touches (look-touches (λ k. line_of k label word)) (λ line.
    stated-touches word (StatementRow.While line condition body) word-in)

pub link_element-touches : {Q : ℕ → Type 0} {strict : Shown} (last : Element) (next : ℕ) → Of Q last.slot → Touches Q strict (link_element last next)
unfolding link_element
link_element-touches last next last-in = put-touches last.slot (Row.Item (ItemRow.Element last.item next)) last-in refl

pub compound_row-touches : {Q : ℕ → Type 0} {strict : Shown} (statements : ℕ) (last : Element) (end : ℕ) → Of Q last.slot → Of Q end
    → Touches Q strict (compound_row statements last end)
unfolding compound_row
compound_row-touches statements last end last-in end-in =
    bind-touches (link_element-touches last 0 last-in) (λ _. stated-touches end (StatementRow.Compound statements) end-in)

pub add_element-touches : {Q : ℕ → Type 0} {strict : Shown} (last : Element) (slot : ℕ) (item : ℕ) → Of Q last.slot
    → Touches Q strict (add_element last slot item)
unfolding add_element
add_element-touches last slot item last-in = bind-touches (link_element-touches last slot last-in) (λ _. give-touches (record { slot = slot; item = item }))

-- an element that was added last stands at its slot
pub added : {Q : ℕ → Type 0} (last : Element) (slot item : ℕ) → Of Q slot → (k : Known) → Of Q (add_element last slot item k).value.slot
unfolding add_element link_element ◌>>=◌ change give
added last slot item here k = here
