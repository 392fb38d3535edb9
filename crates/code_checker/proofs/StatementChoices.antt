-- What the steps of `Rattle.statement_checker.specs.Choices` keep.
use Rattle.std.proofs.Common.{◌<◌, ℕ, Bool, Option, refl}
use Rattle.core_program.specs.declared.rows.StatementRow.{StatementRow}
use Rattle.kind_checker.specs.{Operators.is_ordinal, Shapes.shape_of}
use Rattle.expression_checker.specs.declared.typed.Typed.{Typed}
use Rattle.statement_checker.specs.{Choices.case_row, Choices.host_or, Choices.selector, Sequences.line_of}
use Rattle.code_checker.proofs.StatementSequences.{stated-holds}
use Rattle.code_checker.proofs.Steps.{Holds, bind-holds, give-holds, late-holds, look-holds}

pub selector-holds : {size : ℕ} {later : Bool} (frame : ℕ) (of' : ℕ) (first : ℕ) (v : Typed) → first < size → Holds size later (selector frame of' first v)
unfolding selector
selector-holds frame of' first v first-in = bind-holds (look-holds (λ k. shape_of k v.of)) (λ s. bind-holds (late-holds 6 first (is_ordinal s) refl first-in)
    (λ _. give-holds (record { frame = frame; host = host_or s of'; list = of' })))

pub case_row-holds : {size : ℕ} {later : Bool} (label : Option ℕ) (word : ℕ) (selector' : ℕ) (choices : ℕ)
    → Holds size later (case_row label word selector' choices)
unfolding case_row
case_row-holds label word selector choices = bind-holds (look-holds (λ k. line_of k label word)) (λ line.
    stated-holds word (StatementRow.Case line selector choices))
