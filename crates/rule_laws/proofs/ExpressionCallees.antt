-- What the steps of `Rattle.expression_checker.specs.Callees` touch.
use Rattle.std.proofs.Common.{if◌then◌else◌, ◌≡◌, ℕ, refl}
use Rattle.core_program.specs.declared.rows.Row.{Row}
use Rattle.expression_checker.specs.{Callees.is_function, Callees.takes_count, Typed.typed_value}
use Rattle.expression_checker.specs.Callees.{applied, called_function, callee_of, count_checked, designator_row, designator_type, formals_of, function_named}
use Rattle.expression_checker.specs.declared.{callees.Callee.Callee, callees.ExpectedFormals.ExpectedFormals, typed.Typed.Typed}
use Rattle.rule_laws.proofs.{CheckNames.use_again-touches, Every.Of, Faces.Shown, Faces.said, RowsPut.designator_none}
use Rattle.rule_laws.proofs.Touches.{Touches, bind-touches, give-touches, late-touches, look-touches, looked-touches, put-touches}

pub function_named-touches : {Q : ℕ → Type 0} {strict : Shown} (frame : ℕ) (name : ℕ) → Of Q name → Touches Q strict (function_named frame name)
unfolding function_named
function_named-touches frame name name-in = bind-touches (use_again-touches frame name name-in) (λ found. bind-touches (look-touches
    (λ k. callee_of k frame found)) (λ c. bind-touches (look-touches (λ k. is_function k c)) (λ fine. bind-touches (late-touches 3 name fine refl name-in) (λ _.
    give-touches (if fine then c else Callee.Wrong)))))

pub count_checked-touches : {Q : ℕ → Type 0} {strict : Shown} (name : ℕ) (c : Callee) (n : ℕ) → Of Q name → Touches Q strict (count_checked name c n)
unfolding count_checked
count_checked-touches name c n name-in = bind-touches (look-touches (λ k. takes_count k c n))
    (λ fine. bind-touches (late-touches 26 name fine refl name-in) (λ _.
    bind-touches (look-touches (λ k. formals_of k c)) (λ known. give-touches
    (record { callee = c; formals = if fine then known else ExpectedFormals.Unknown }))))

pub called_function-touches : {Q : ℕ → Type 0} {strict : Shown} (frame : ℕ) (name : ℕ) (n : ℕ) → Of Q name → Touches Q strict (called_function frame name n)
unfolding called_function
called_function-touches frame name n name-in = bind-touches (function_named-touches frame name name-in) (λ c. count_checked-touches name c n name-in)

pub applied-touches : {Q : ℕ → Type 0} {strict : Shown} (name : ℕ) (c : Callee) (v : Typed) (actuals : ℕ) → Of Q name
    → Touches Q strict (applied name c v actuals)
unfolding applied
applied-touches name c v actuals name-in = bind-touches (look-touches (λ k. designator_type k c v)) (λ of'.
    looked-touches (λ r. said r ≡ Row.Nothing) (λ k. designator_row k c v actuals) (λ k. designator_none k c v actuals) (λ r none.
    bind-touches (put-touches name r name-in none) (λ _. give-touches (typed_value name of'))))
