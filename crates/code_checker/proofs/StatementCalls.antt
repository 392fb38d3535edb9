-- What the steps of `Rattle.statement_checker.specs.Calls` keep.
use Rattle.std.proofs.Common.{if◌then◌else◌, ◌<◌, ℕ, Bool, refl}
use Rattle.expression_checker.specs.{Callees.callee_of, declared.callees.Callee.Callee}
use Rattle.statement_checker.specs.Calls.{call_in, call_row, is_procedure, procedure_at}
use Rattle.code_checker.proofs.CheckNames.{use_again-holds}
use Rattle.code_checker.proofs.Steps.{Holds, bind-holds, give-holds, late-holds, look-holds, put-holds}

pub procedure_at-holds : {size : ℕ} {later : Bool} (frame : ℕ) (name : ℕ) → name < size → Holds size later (procedure_at frame name)
unfolding procedure_at
procedure_at-holds frame name name-in = bind-holds (use_again-holds frame name name-in) (λ found. bind-holds (look-holds
    (λ k. callee_of k frame found)) (λ c. bind-holds (look-holds (λ k. is_procedure k c)) (λ fine. bind-holds (late-holds 3 name fine refl name-in) (λ _.
    give-holds (if fine then c else Callee.Wrong)))))

pub call_row-holds : {size : ℕ} {later : Bool} (line : ℕ) (name : ℕ) (c : Callee) (actuals : ℕ) → Holds size later (call_row line name c actuals)
unfolding call_row
call_row-holds line name c actuals = bind-holds (put-holds name (call_in c line actuals)) (λ _. give-holds name)
