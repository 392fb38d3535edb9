-- What the steps of `Rattle.statement_checker.specs.Loops` keep.
use Rattle.std.proofs.Common.{if◌then◌else◌, ◌<◌, ℕ, Bool, None, Option, Some, false, refl}
use Rattle.pas_tree.specs.{OperatorPlaces.direction_token, Operators.direction_node, declared.operators.Direction.Direction as DirectionTree}
use Rattle.core_program.specs.declared.rows.StatementRow.{StatementRow}
use Rattle.check_steps.specs.Known.{threat_of}
use Rattle.kind_checker.specs.{Operators.is_ordinal, Shapes.agree, Shapes.shape_of}
use Rattle.expression_checker.specs.declared.typed.Typed.{Typed}
use Rattle.statement_checker.specs.{Sequences.line_of, declared.loops.Control.Control}
use Rattle.statement_checker.specs.Loops.{bound, control_at, control_of, control_type, control_type_number, controlled, direction_of, enter_for, for_row, held}
use Rattle.statement_checker.specs.Loops.{held_by, hold_if, is_own, is_variable, leave_for, place_of, put_turns, release_if, unthreatened}
use Rattle.code_checker.proofs.{CheckNames.use_again-holds, ExpressionThreats.threat-holds, Parts.threat_of-in, Within.Below, Within.Within}
use Rattle.code_checker.proofs.StatementSequences.{stated-holds}
use Rattle.code_checker.proofs.Steps.{Holds, bind-holds, give-holds, hold-holds, late-holds, look-holds, looked-holds, release-holds}

pub controlled-holds : {size : ℕ} {later : Bool} (name : ℕ) (c : Control) → name < size → Holds size later (controlled name c)
unfolding controlled
controlled-holds name c name-in = bind-holds (look-holds (λ k. is_ordinal (shape_of k (control_type c)))) (λ ordinal.
    bind-holds (late-holds 6 name ordinal refl name-in) (λ _. late-holds 19 name (is_own c) refl name-in))

pub control_at-holds : {size : ℕ} {later : Bool} (frame : ℕ) (name : ℕ) → name < size → Holds size later (control_at frame name)
unfolding control_at
control_at-holds frame name name-in = bind-holds (use_again-holds frame name name-in) (λ found. bind-holds (look-holds
    (λ k. control_of k frame found)) (λ c. bind-holds (late-holds 3 name (is_variable c) refl name-in) (λ _. bind-holds (controlled-holds name c name-in)
    (λ _. bind-holds (threat-holds frame name name-in) (λ _. give-holds c)))))

pub unthreatened-holds : {size : ℕ} {later : Bool} (x : Option ℕ) → Below size x → Holds size later (unthreatened x)
unthreatened-holds None x-in = give-holds tt
unthreatened-holds (Some name) x-in = late-holds 20 name false refl x-in

pub held-holds : {size : ℕ} {later : Bool} (variable : ℕ) → Holds size later (held variable)
unfolding held
held-holds {size = size} variable = looked-holds (Below size) (λ k. threat_of k variable) (λ k t. threat_of-in size k variable t) (λ first first-in.
    bind-holds (unthreatened-holds first first-in) (λ _. hold-holds variable))

pub hold_if-holds : {size : ℕ} {later : Bool} (x : Option ℕ) → Holds size later (hold_if x)
hold_if-holds None = give-holds tt
hold_if-holds (Some variable) = held-holds variable

pub release_if-holds : {size : ℕ} {later : Bool} (x : Option ℕ) → Holds size later (release_if x)
release_if-holds None = give-holds tt
release_if-holds (Some variable) = release-holds

pub enter_for-holds : {size : ℕ} {later : Bool} (frame : ℕ) (name : ℕ) → name < size → Holds size later (enter_for frame name)
unfolding enter_for
enter_for-holds frame name name-in = bind-holds (control_at-holds frame name name-in) (λ c. bind-holds (hold_if-holds (held_by c)) (λ _. give-holds c))

pub leave_for-holds : {size : ℕ} {later : Bool} (c : Control) → Holds size later (leave_for c)
leave_for-holds c = release_if-holds (held_by c)

pub bound-holds : {size : ℕ} {later : Bool} (c : Control) (first : ℕ) (v : Typed) → first < size → Holds size later (bound c first v)
unfolding bound
bound-holds c first v first-in = bind-holds (look-holds (λ k. agree (shape_of k (control_type c)) (shape_of k v.of))) (λ fine.
    late-holds 21 first fine refl first-in)

pub put_turns-holds : {size : ℕ} {later : Bool} (d : DirectionTree) (last : ℕ) (c : Control) (body : ℕ) → Within size (direction_node d)
    → Holds size later (put_turns d last c body)
unfolding put_turns
put_turns-holds d last c body d-in = stated-holds (direction_token d) (StatementRow.Turns (direction_of d) last (place_of c) (control_type_number c) body)

pub for_row-holds : {size : ℕ} {later : Bool} (label : Option ℕ) (word : ℕ) (initial : ℕ) (turns : ℕ) → Holds size later (for_row label word initial turns)
unfolding for_row
for_row-holds label word initial turns = bind-holds (look-holds (λ k. line_of k label word)) (λ line. stated-holds word (StatementRow.For line initial turns))
