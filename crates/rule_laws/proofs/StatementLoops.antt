-- What the steps of `Rattle.statement_checker.specs.Loops` touch.
use Rattle.std.proofs.Common.{ℕ, None, Option, Some, false, refl}
use Rattle.pas_tree.specs.{OperatorPlaces.direction_token, Operators.direction_node, declared.operators.Direction.Direction as DirectionTree}
use Rattle.core_program.specs.declared.rows.StatementRow.{StatementRow}
use Rattle.check_steps.specs.Known.{threat_of}
use Rattle.kind_checker.specs.{Operators.is_ordinal, Shapes.agree, Shapes.shape_of}
use Rattle.expression_checker.specs.declared.typed.Typed.{Typed}
use Rattle.statement_checker.specs.{Sequences.line_of, declared.loops.Control.Control}
use Rattle.statement_checker.specs.Loops.{bound, control_at, control_of, control_type, control_type_number, controlled, direction_of, enter_for, for_row, held}
use Rattle.statement_checker.specs.Loops.{held_by, hold_if, is_own, is_variable, leave_for, place_of, put_turns, release_if, unthreatened}
use Rattle.rule_laws.proofs.{CheckNames.use_again-touches, Every.Every, Every.Of, ExpressionThreats.threat-touches, Faces.Shown, TokenPlaces.direction_token-in}
use Rattle.rule_laws.proofs.StatementSequences.{stated-touches}
use Rattle.rule_laws.proofs.Touches.{Touches, bind-touches, give-touches, hold-touches, late-touches, look-touches, release-touches, threat-told}

pub controlled-touches : {Q : ℕ → Type 0} {strict : Shown} (name : ℕ) (c : Control) → Of Q name → Touches Q strict (controlled name c)
unfolding controlled
controlled-touches name c name-in = bind-touches (look-touches (λ k. is_ordinal (shape_of k (control_type c)))) (λ ordinal.
    bind-touches (late-touches 6 name ordinal refl name-in) (λ _. late-touches 19 name (is_own c) refl name-in))

pub control_at-touches : {Q : ℕ → Type 0} {strict : Shown} (frame : ℕ) (name : ℕ) → Of Q name → Touches Q strict (control_at frame name)
unfolding control_at
control_at-touches frame name name-in = bind-touches (use_again-touches frame name name-in) (λ found. bind-touches (look-touches
    (λ k. control_of k frame found)) (λ c. bind-touches (late-touches 3 name (is_variable c) refl name-in)
    (λ _. bind-touches (controlled-touches name c name-in)
    (λ _. bind-touches (threat-touches frame name name-in) (λ _. give-touches c)))))

pub unthreatened-touches : {Q : ℕ → Type 0} {strict : Shown} (x : Option ℕ) → Touches Q strict (unthreatened x)
unthreatened-touches None = give-touches tt
unthreatened-touches (Some name) = threat-told name false

pub held-touches : {Q : ℕ → Type 0} {strict : Shown} (variable : ℕ) → Touches Q strict (held variable)
unfolding held
held-touches variable = bind-touches (look-touches (λ k. threat_of k variable)) (λ first.
    bind-touches (unthreatened-touches first) (λ _. hold-touches variable))

pub hold_if-touches : {Q : ℕ → Type 0} {strict : Shown} (x : Option ℕ) → Touches Q strict (hold_if x)
hold_if-touches None = give-touches tt
hold_if-touches (Some variable) = held-touches variable

pub release_if-touches : {Q : ℕ → Type 0} {strict : Shown} (x : Option ℕ) → Touches Q strict (release_if x)
release_if-touches None = give-touches tt
release_if-touches (Some variable) = release-touches

pub enter_for-touches : {Q : ℕ → Type 0} {strict : Shown} (frame : ℕ) (name : ℕ) → Of Q name → Touches Q strict (enter_for frame name)
unfolding enter_for
enter_for-touches frame name name-in = bind-touches (control_at-touches frame name name-in)
    (λ c. bind-touches (hold_if-touches (held_by c)) (λ _. give-touches c))

pub leave_for-touches : {Q : ℕ → Type 0} {strict : Shown} (c : Control) → Touches Q strict (leave_for c)
leave_for-touches c = release_if-touches (held_by c)

pub bound-touches : {Q : ℕ → Type 0} {strict : Shown} (c : Control) (first : ℕ) (v : Typed) → Of Q first → Touches Q strict (bound c first v)
unfolding bound
bound-touches c first v first-in = bind-touches (look-touches (λ k. agree (shape_of k (control_type c)) (shape_of k v.of))) (λ fine.
    late-touches 21 first fine refl first-in)

pub put_turns-touches : {Q : ℕ → Type 0} {strict : Shown} (d : DirectionTree) (last : ℕ) (c : Control) (body : ℕ) → Every Q (direction_node d)
    → Touches Q strict (put_turns d last c body)
unfolding put_turns
put_turns-touches d last c body d-in =
    stated-touches (direction_token d) (StatementRow.Turns (direction_of d) last (place_of c) (control_type_number c) body) (direction_token-in d d-in)

pub for_row-touches : {Q : ℕ → Type 0} {strict : Shown} (label : Option ℕ) (word : ℕ) (initial : ℕ) (turns : ℕ) → Of Q word
    → Touches Q strict (for_row label word initial turns)
unfolding for_row
for_row-touches label word initial turns word-in =
    bind-touches (look-touches (λ k. line_of k label word)) (λ line. stated-touches word (StatementRow.For line initial turns) word-in)
