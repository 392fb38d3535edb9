-- What the steps of `Rattle.expression_checker.specs.Callees` keep.
use Rattle.std.proofs.Common.{if◌then◌else◌, ◌<◌, ℕ, Bool, refl}
use Rattle.expression_checker.specs.{Callees.is_function, Callees.takes_count, Typed.typed_value}
use Rattle.expression_checker.specs.Callees.{applied, called_function, callee_of, count_checked, designator_row, designator_type, formals_of, function_named}
use Rattle.expression_checker.specs.declared.{callees.Callee.Callee, callees.ExpectedFormals.ExpectedFormals, typed.Typed.Typed}
use Rattle.code_checker.proofs.CheckNames.{use_again-holds}
use Rattle.code_checker.proofs.Steps.{Holds, bind-holds, give-holds, late-holds, look-holds, put-holds}

pub function_named-holds : {size : ℕ} {later : Bool} (frame : ℕ) (name : ℕ) → name < size → Holds size later (function_named frame name)
unfolding function_named
function_named-holds frame name name-in = bind-holds (use_again-holds frame name name-in) (λ found. bind-holds (look-holds
    (λ k. callee_of k frame found)) (λ c. bind-holds (look-holds (λ k. is_function k c)) (λ fine. bind-holds (late-holds 3 name fine refl name-in) (λ _.
    give-holds (if fine then c else Callee.Wrong)))))

pub count_checked-holds : {size : ℕ} {later : Bool} (name : ℕ) (c : Callee) (n : ℕ) → name < size → Holds size later (count_checked name c n)
unfolding count_checked
count_checked-holds name c n name-in = bind-holds (look-holds (λ k. takes_count k c n)) (λ fine. bind-holds (late-holds 26 name fine refl name-in) (λ _.
    bind-holds (look-holds (λ k. formals_of k c)) (λ known. give-holds (record { callee = c; formals = if fine then known else ExpectedFormals.Unknown }))))

pub called_function-holds : {size : ℕ} {later : Bool} (frame : ℕ) (name : ℕ) (n : ℕ) → name < size → Holds size later (called_function frame name n)
unfolding called_function
called_function-holds frame name n name-in = bind-holds (function_named-holds frame name name-in) (λ c. count_checked-holds name c n name-in)

pub applied-holds : {size : ℕ} {later : Bool} (name : ℕ) (c : Callee) (v : Typed) (actuals : ℕ) → Holds size later (applied name c v actuals)
unfolding applied
applied-holds name c v actuals = bind-holds (look-holds (λ k. designator_type k c v)) (λ of'. bind-holds (look-holds (λ k. designator_row k c v actuals))
    (λ r. bind-holds (put-holds name r) (λ _. give-holds (typed_value name of'))))
