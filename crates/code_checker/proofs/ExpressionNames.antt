-- What the steps of `Rattle.expression_checker.specs.Names` keep.
use Rattle.std.proofs.Common.{◌<◌, ℕ, Bool, refl}
use Rattle.grammar.specs.Nodes.{row}
use Rattle.core_program.specs.declared.rows.{AccessRow.AccessRow, Row.Row}
use Rattle.kind_checker.specs.declared.shapes.ExpressionType.{ExpressionType}
use Rattle.expression_checker.specs.{Typed.unknown_at, declared.names.Meaning.Meaning, declared.typed.Location.Location}
use Rattle.expression_checker.specs.Names.{accessed_as, bound_at, is_variable, meaning_of, variable}
use Rattle.code_checker.proofs.CheckNames.{use_again-holds}
use Rattle.code_checker.proofs.Steps.{Holds, bind-holds, give-holds, late-holds, look-holds, put-holds}

pub accessed_as-holds : {size : ℕ} {later : Bool} (name : ℕ) (m : Meaning) → Holds size later (accessed_as name m)
accessed_as-holds name (Meaning.Variable r of' l) = bind-holds (put-holds name (Row.Access r)) (λ _.
    give-holds (record { row = name; of = ExpressionType.Of of'; location = l }))
accessed_as-holds name m = give-holds (unknown_at name)

pub bound_at-holds : {size : ℕ} {later : Bool} (name : ℕ) (r : AccessRow) (of' : ℕ) → Holds size later (bound_at name r of')
unfolding bound_at
bound_at-holds name r of' = bind-holds (put-holds name (Row.Access r)) (λ _.
    give-holds (record { row = name; of = ExpressionType.Of of'; location = Location.Nowhere }))

pub variable-holds : {size : ℕ} {later : Bool} (frame : ℕ) (name : ℕ) → name < size → Holds size later (variable frame name)
unfolding variable
variable-holds frame name name-in = bind-holds (use_again-holds frame name name-in) (λ found. bind-holds (look-holds
    (λ k. meaning_of k frame found)) (λ m. bind-holds (late-holds 3 name (is_variable m) refl name-in) (λ _. accessed_as-holds name m)))
