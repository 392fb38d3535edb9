-- What waits for an address weighs little.
use Rattle.std.proofs.Common.{◌≤◌, arith}
use Rattle.evaluator.specs.{Weight.task_weight, declared.tasks.Located.Located, declared.tasks.Task.Task}
use Rattle.evaluator.specs.declared.tasks.Located.TheVariants.{Field, Index, Passed, Pointed, Value}

pub located_light : (l : Located) → task_weight (Task.Located l) ≤ 2
located_light (Value of' line) = omega arith
located_light (Index index array line) = omega arith
located_light (Field field target line) = omega arith
located_light (Pointed line) = omega arith
located_light (Passed next line) = omega arith
