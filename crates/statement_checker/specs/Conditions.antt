-- Conditions (6.8.3.4, 6.8.3.7, 6.8.3.8).
use Rattle.std.specs.Prelude.{ℕ, Bool}
use Rattle.check_steps.specs.{Known.Known, Steps.◌>>=◌, Steps.Step, Steps.late, Steps.look}
use Rattle.kind_checker.specs.{Operators.is_operand, Shapes.shape_of}
use Rattle.expression_checker.specs.declared.typed.Typed.{Typed}

-- A condition of unknown type breaks no further rule.
abbrev pub is_condition : Known → Typed → Bool
is_condition k v = is_operand 1 (shape_of k v.of)

-- rule 17: a condition is not Boolean, at its first token
unfoldable pub condition : ℕ → Typed → Step (Unit {0})
condition first v = do
  fine ← look (λ k. is_condition k v)
  late 17 first fine
