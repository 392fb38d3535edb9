-- What the steps of `Rattle.statement_checker.specs.Calls` touch.
use Rattle.std.proofs.Common.{if◌then◌else◌, ℕ, refl}
use Rattle.expression_checker.specs.{Callees.callee_of, declared.callees.Callee.Callee}
use Rattle.statement_checker.specs.Calls.{call_in, call_row, is_procedure, procedure_at}
use Rattle.rule_laws.proofs.{CheckNames.use_again-touches, Every.Of, Faces.Shown, RowsPut.call_none}
use Rattle.rule_laws.proofs.Touches.{Touches, bind-touches, give-touches, late-touches, look-touches, put-touches}

pub procedure_at-touches : {Q : ℕ → Type 0} {strict : Shown} (frame : ℕ) (name : ℕ) → Of Q name → Touches Q strict (procedure_at frame name)
unfolding procedure_at
procedure_at-touches frame name name-in = bind-touches (use_again-touches frame name name-in) (λ found. bind-touches (look-touches
    (λ k. callee_of k frame found)) (λ c. bind-touches (look-touches (λ k. is_procedure k c))
    (λ fine. bind-touches (late-touches 3 name fine refl name-in) (λ _.
    give-touches (if fine then c else Callee.Wrong)))))

pub call_row-touches : {Q : ℕ → Type 0} {strict : Shown} (line : ℕ) (name : ℕ) (c : Callee) (actuals : ℕ) → Of Q name
    → Touches Q strict (call_row line name c actuals)
unfolding call_row
call_row-touches line name c actuals name-in = bind-touches (put-touches name (call_in c line actuals) name-in (call_none c line actuals))
    (λ _. give-touches name)
