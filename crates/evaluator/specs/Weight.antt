-- What a body has still to do, as a number that falls from turn to turn.
use Rattle.std.specs.Prelude.{◌*◌, ◌+◌, ◌-◌, ◌<◌, ◌≡◌, ℕ, None, Ok, Option, Result, sum_by}
use Rattle.eval_ops.specs.declared.{halt.Halt.Halt, machine.Machine.Machine}
use Rattle.evaluator.specs.declared.body.Body.{Body}
use Rattle.evaluator.specs.declared.tasks.{ChoiceTask.ChoiceTask, Located.Located, Next.Next, OperandTask.OperandTask}
use Rattle.evaluator.specs.declared.tasks.{Part.Part, Pause.Pause, Task.Task}
use Rattle.evaluator.specs.declared.tasks.Now.{Now, TheVariants.Begin, TheVariants.Came, TheVariants.Carry}

-- more than the parts of an access can weigh, of which each stands before the one that it is part of
abbrev pub come : ℕ
come = 34359738368

-- more than an expression can weigh that begins
abbrev pub operand_most : ℕ
operand_most = 17179869196

-- A part that takes a step before it ends weighs less than its end. A labelled statement begins the one after it
-- without a step between.
abbrev pub part_weight : Part → ℕ
part_weight (Part.Eval row line) = 4 * row + 8
part_weight (Part.Locate row target line) = 4 * row + 4
part_weight (Part.Pass at line) = come + 1
part_weight (Part.Gather at line) = come + 1
part_weight (Part.Exec row line) = 2 * (4294967296 - row)
part_weight (Part.Establish at body line) = come + 1
part_weight (Part.Sequence first at line) = come + 1
part_weight (Part.Turn row line) = come + 4
part_weight Part.Block = 0
part_weight (Part.Receive at line) = come + 1
part_weight (Part.Scanning scan line) = 1
part_weight (Part.RestOfLine line) = 1
part_weight (Part.Print at line) = come + 1

abbrev pub now_weight : Now → ℕ
now_weight (Begin part) = part_weight part
now_weight (Carry row) = come + 10
now_weight (Came way) = come

abbrev pub task_weight : Task → ℕ
task_weight (Task.Located (Located.Passed next line)) = 2
task_weight (Task.Actual of' next line) = 2
task_weight (Task.ArrayPlace first of' t next line) = 2
task_weight (Task.ArrayValue first of' t next line) = 2
task_weight (Task.TextValue first of' next line) = 2
task_weight (Task.Operand (OperandTask.Member next line)) = 2
task_weight (Task.Range next line) = 2
task_weight (Task.Record next body line) = 4
task_weight (Task.Choice (ChoiceTask.Until row line)) = 5
task_weight (Task.Next (Next.Sequence first at line)) = 2
task_weight (Task.Next (Next.Again row line)) = 5
task_weight (Task.Transfer t) = 2
task_weight t = 1

-- the tasks that wait
abbrev pub tasks_weight : Body → ℕ
tasks_weight a = sum_by task_weight a.tasks.items

abbrev pub body_weight : Body → ℕ
body_weight a = now_weight a.now + tasks_weight a

-- what is left, where each step that is left outweighs what it can begin
abbrev pub left_with : (steps weight : ℕ) → ℕ
left_with steps weight = 1099511627776 * steps + weight

abbrev pub measure_of : Body → Machine → ℕ
measure_of a m = left_with m.steps (body_weight a)

-- whether a turn came to no stop
abbrev pub went_on : Result (Option Pause) Halt → ℕ
went_on (Ok None) = 1
went_on result = 0

-- a turn that came to no stop left less
abbrev pub Falls : Result (Option Pause) Halt → (left before : ℕ) → Type 0
Falls result left before = went_on result ≡ 1 → left < before
