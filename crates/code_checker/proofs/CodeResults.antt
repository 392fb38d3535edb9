-- What the steps of `Rattle.code_checker.specs.Results` keep.
use Rattle.std.proofs.Common.{◌<◌, ℕ, Bool, refl}
use Rattle.code_checker.proofs.Steps.{Holds, bind-holds, late-holds, look-holds}
use Rattle.code_checker.specs.Results.{function_result, has_result}

pub function_result-holds : {size : ℕ} {later : Bool} (function : Bool) (name : ℕ) → name < size → Holds size later (function_result function name)
unfolding function_result
function_result-holds function name name-in = bind-holds (look-holds (λ k. has_result k function name)) (λ fine. late-holds 12 name fine refl name-in)
