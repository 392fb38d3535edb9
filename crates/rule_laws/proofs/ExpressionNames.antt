-- What the steps of `Rattle.expression_checker.specs.Names` touch.
use Rattle.std.proofs.Common.{ℕ, refl}
use Rattle.core_program.specs.declared.rows.{AccessRow.AccessRow, Row.Row}
use Rattle.kind_checker.specs.declared.shapes.ExpressionType.{ExpressionType}
use Rattle.expression_checker.specs.{Typed.unknown_at, declared.names.Meaning.Meaning, declared.typed.Location.Location}
use Rattle.expression_checker.specs.Names.{accessed_as, bound_at, is_variable, meaning_of, variable}
use Rattle.rule_laws.proofs.{CheckNames.use_again-touches, Every.Of, Faces.Shown}
use Rattle.rule_laws.proofs.Touches.{Touches, bind-touches, give-touches, late-touches, look-touches, put-touches}

pub accessed_as-touches : {Q : ℕ → Type 0} {strict : Shown} (name : ℕ) (m : Meaning) → Of Q name → Touches Q strict (accessed_as name m)
accessed_as-touches name (Meaning.Variable r of' l) name-in = bind-touches (put-touches name (Row.Access r) name-in refl) (λ _.
    give-touches (record { row = name; of = ExpressionType.Of of'; location = l }))
accessed_as-touches name m name-in = give-touches (unknown_at name)

pub bound_at-touches : {Q : ℕ → Type 0} {strict : Shown} (name : ℕ) (r : AccessRow) (of' : ℕ) → Of Q name → Touches Q strict (bound_at name r of')
unfolding bound_at
bound_at-touches name r of' name-in = bind-touches (put-touches name (Row.Access r) name-in refl) (λ _.
    give-touches (record { row = name; of = ExpressionType.Of of'; location = Location.Nowhere }))

pub variable-touches : {Q : ℕ → Type 0} {strict : Shown} (frame : ℕ) (name : ℕ) → Of Q name → Touches Q strict (variable frame name)
unfolding variable
variable-touches frame name name-in = bind-touches (use_again-touches frame name name-in) (λ found. bind-touches (look-touches
    (λ k. meaning_of k frame found)) (λ m. bind-touches (late-touches 3 name (is_variable m) refl name-in) (λ _. accessed_as-touches name m name-in)))
