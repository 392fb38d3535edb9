-- What the steps of `Rattle.statement_checker.specs.Choices` touch.
use Rattle.std.proofs.Common.{ℕ, Option, refl}
use Rattle.core_program.specs.declared.rows.StatementRow.{StatementRow}
use Rattle.kind_checker.specs.{Operators.is_ordinal, Shapes.shape_of}
use Rattle.expression_checker.specs.declared.typed.Typed.{Typed}
use Rattle.statement_checker.specs.{Choices.case_row, Choices.host_or, Choices.selector, Sequences.line_of}
use Rattle.rule_laws.proofs.{Every.Of, Faces.Shown, StatementSequences.stated-touches}
use Rattle.rule_laws.proofs.Touches.{Touches, bind-touches, give-touches, late-touches, look-touches}

pub selector-touches : {Q : ℕ → Type 0} {strict : Shown} (frame : ℕ) (of' : ℕ) (first : ℕ) (v : Typed) → Of Q first
    → Touches Q strict (selector frame of' first v)
unfolding selector
selector-touches frame of' first v first-in = bind-touches (look-touches (λ k. shape_of k v.of))
    (λ s. bind-touches (late-touches 6 first (is_ordinal s) refl first-in)
    (λ _. give-touches (record { frame = frame; host = host_or s of'; list = of' })))

pub case_row-touches : {Q : ℕ → Type 0} {strict : Shown} (label : Option ℕ) (word : ℕ) (selector' : ℕ) (choices : ℕ) → Of Q word
    → Touches Q strict (case_row label word selector' choices)
unfolding case_row
case_row-touches label word selector choices word-in = bind-touches (look-touches (λ k. line_of k label word)) (λ line.
    stated-touches word (StatementRow.Case line selector choices) word-in)
