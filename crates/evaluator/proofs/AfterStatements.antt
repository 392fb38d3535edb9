-- What follows a statement.
use Rattle.std.proofs.Common.{◌≡◌, ◌≤◌, ℕ, Bool, List, arith, false, refl, true}
use Rattle.cell_value.specs.declared.values.Value.{Value}
use Rattle.core_program.specs.{Accesses.is_conformant, ProgramRows.ProgramRows, Tree.ActTree, Tree.Out, Tree.Ret}
use Rattle.core_program.specs.Tree as parts
use Rattle.evaluator.specs.{Records.SameFrame, Weight.task_weight, declared.tasks.TransferTask.TransferTask}
use Rattle.evaluator.specs.Rest.{Lists, after_part, after_statement, array_found, home_below, place_found, top_passed, value_wanted}
use Rattle.evaluator.specs.declared.tasks.{ChoiceTask.ChoiceTask, Home.Home, Located.Located, Next.Next, OperandTask.OperandTask, Task.Task}

-- what ended, if not by a jump, is all one
pub record IsAllOne (t : Out → ActTree) : Type 0 where
  pub scalar : (v : Value) → t (parts.Scalar v) ≡ t parts.Nothing
  pub cells : (vs : List Value) → t (parts.Cells vs) ≡ t parts.Nothing
  pub address : (addr : ℕ) → t (parts.Address addr) ≡ t parts.Nothing

all_one : {t : Out → ActTree} → ((v : Value) → t (parts.Scalar v) ≡ t parts.Nothing) → ((vs : List Value) → t (parts.Cells vs) ≡ t parts.Nothing)
    → ((addr : ℕ) → t (parts.Address addr) ≡ t parts.Nothing) → IsAllOne t
all_one f g h = record { scalar = f; cells = g; address = h }

pub statement_ended : (p : ProgramRows) (home : Home) (n : Next) (vs : List Value) → IsAllOne (after_statement p home n vs)
statement_ended p home (Next.Sequence first at line) vs = all_one (λ v. refl) (λ ws. refl) (λ a. refl)
statement_ended p home (Next.Labelled row label line) vs = all_one (λ v. refl) (λ ws. refl) (λ a. refl)
statement_ended p home (Next.Again row line) vs = all_one (λ v. refl) (λ ws. refl) (λ a. refl)
statement_ended p home (Next.Condition row condition line) vs = all_one (λ v. refl) (λ ws. refl) (λ a. refl)
statement_ended p home (Next.Counted row line) vs = all_one (λ v. refl) (λ ws. refl) (λ a. refl)
statement_ended p home Next.Forget vs = all_one (λ v. refl) (λ ws. refl) (λ a. refl)
statement_ended p home (Next.PassLine line) vs = all_one (λ v. refl) (λ ws. refl) (λ a. refl)
statement_ended p home (Next.EndLine line) vs = all_one (λ v. refl) (λ ws. refl) (λ a. refl)

-- a jump that a task does not stop goes on outward
pub other_leaps : (p : ProgramRows) (home : Home) (t : Task) (vs : List Value) (ls : Lists) (label base : ℕ)
    → ((n : Next) → t ≡ Task.Next n → ⊥) → after_part p home t vs ls (parts.Jump label base) ≡ Ret (parts.Jump label base)
other_leaps p home (Task.Next n) vs ls label base f = absurd (f n refl)
other_leaps p home (Task.Located (Located.Value of' line)) vs ls label base f = wanted_leaps (is_conformant p of')
  where
    wanted_leaps : (b : Bool) → value_wanted p line of' b (parts.Jump label base) ≡ Ret (parts.Jump label base)
    wanted_leaps true = refl
    wanted_leaps false = refl
other_leaps p home (Task.ArrayPlace first of' t next line) vs ls label base f = placed_leaps (is_conformant p t)
  where
    placed_leaps : (b : Bool) → place_found p home first of' t next line (top_passed ls) b (parts.Jump label base) ≡ Ret (parts.Jump label base)
    placed_leaps true = refl
    placed_leaps false = refl
other_leaps p home (Task.ArrayValue first of' t next line) vs ls label base f = copied_leaps (is_conformant p t)
  where
    copied_leaps : (b : Bool) → array_found p home first of' t next line (top_passed ls) b (parts.Jump label base) ≡ Ret (parts.Jump label base)
    copied_leaps true = refl
    copied_leaps false = refl
other_leaps p home (Task.Transfer (TransferTask.Integer a)) vs ls label base f = refl
other_leaps p home (Task.Transfer (TransferTask.Into a)) vs ls label base f = refl
other_leaps p home (Task.Transfer (TransferTask.Written a b c)) vs ls label base f = refl
other_leaps p home (Task.Transfer (TransferTask.Wide a b c d)) vs ls label base f = refl
other_leaps p home (Task.Transfer (TransferTask.Width a b c)) vs ls label base f = refl
other_leaps p home (Task.Transfer (TransferTask.TextWidth a b)) vs ls label base f = refl
other_leaps p home t vs ls label base f = refl

pub other_lands : (p : ProgramRows) (home : Home) (n : Next) (vs : List Value) (label base : ℕ)
    → ((a b c : ℕ) → n ≡ Next.Sequence a b c → ⊥) → ((a b c : ℕ) → n ≡ Next.Labelled a b c → ⊥)
    → after_statement p home n vs (parts.Jump label base) ≡ Ret (parts.Jump label base)
other_lands p home (Next.Sequence first at line) vs label base f g = absurd (f first at line refl)
other_lands p home (Next.Labelled row own line) vs label base f g = absurd (g row own line refl)
other_lands p home n vs label base f g = refl

-- A task that takes an address takes that of a conformant array, unless it asks for its bounds.
pub address_enough : (p : ProgramRows) (home : Home) (t : Task) (vs : List Value) (ls : Lists) (addr frame : ℕ)
    → ((l : Located) → t ≡ Task.Located l → ⊥) → ((a b c d : ℕ) → t ≡ Task.BoundedIndex a b c d → ⊥)
    → ((a : Bool) (b c d e : ℕ) → t ≡ Task.ArrayPlace a b c d e → ⊥) → ((a : Bool) (b c d e : ℕ) → t ≡ Task.ArrayValue a b c d e → ⊥)
    → (t ≡ Task.Leave → ⊥) → after_part p home t vs ls (parts.Bounded addr frame) ≡ after_part p home t vs ls (parts.Address addr)
address_enough p home (Task.Located l) vs ls addr frame f g h i j = absurd (f l refl)
address_enough p home (Task.BoundedIndex a b c d) vs ls addr frame f g h i j = absurd (g a b c d refl)
address_enough p home (Task.ArrayPlace a b c d e) vs ls addr frame f g h i j = absurd (h a b c d e refl)
address_enough p home (Task.ArrayValue a b c d e) vs ls addr frame f g h i j = absurd (i a b c d e refl)
address_enough p home Task.Leave vs ls addr frame f g h i j = absurd (j refl)
address_enough p home (Task.Next (Next.Sequence first at line)) vs ls addr frame f g h i j = refl
address_enough p home (Task.Next (Next.Labelled row label line)) vs ls addr frame f g h i j = refl
address_enough p home (Task.Next n) vs ls addr frame f g h i j = refl
address_enough p home (Task.Transfer (TransferTask.Integer a)) vs ls addr frame f g h i j = refl
address_enough p home (Task.Transfer (TransferTask.Into a)) vs ls addr frame f g h i j = refl
address_enough p home (Task.Transfer (TransferTask.Written a b c)) vs ls addr frame f g h i j = refl
address_enough p home (Task.Transfer (TransferTask.Wide a b c d)) vs ls addr frame f g h i j = refl
address_enough p home (Task.Transfer (TransferTask.Width a b c)) vs ls addr frame f g h i j = refl
address_enough p home (Task.Transfer (TransferTask.TextWidth a b)) vs ls addr frame f g h i j = refl
address_enough p home t vs ls addr frame f g h i j = refl

pub each_weighs : (t : Task) → 1 ≤ task_weight t
each_weighs (Task.Located (Located.Passed next line)) = omega arith
each_weighs (Task.Actual of' next line) = omega arith
each_weighs (Task.ArrayPlace first of' t next line) = omega arith
each_weighs (Task.ArrayValue first of' t next line) = omega arith
each_weighs (Task.TextValue first of' next line) = omega arith
each_weighs (Task.Operand (OperandTask.Member next line)) = omega arith
each_weighs (Task.Range next line) = omega arith
each_weighs (Task.Record next body line) = omega arith
each_weighs (Task.Choice (ChoiceTask.Until row line)) = omega arith
each_weighs (Task.Next (Next.Sequence first at line)) = omega arith
each_weighs (Task.Next (Next.Again row line)) = omega arith
each_weighs (Task.Transfer t) = omega arith
each_weighs t = omega arith

-- what is below a task is in the same frame
pub same_below : (t : Task) (home : Home) → SameFrame (home_below t home) home
same_below Task.Leave home = record { routine = refl; base = refl }
same_below t home = record { routine = refl; base = refl }
