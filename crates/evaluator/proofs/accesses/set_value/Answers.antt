use Rattle.std.proofs.Common.{◌∙◌, ◌≡◌, Some, ap, arith, rules}
use mir.Syntax.{w32}
use mir.Val.{of_z, to_z}
use Rattle.core_program.specs.{Accesses.scalar, Accesses.with_bounds, Tree.bind, Tree.doing, declared.rows.TypeRow.TypeRow}
use Rattle.core_program.specs.Cells as action
use Rattle.eval_ops.specs.Machines.{moment_of}
use Rattle.evaluator.proofs.Turning.{moves_on}
use Rattle.evaluator.proofs.accesses.set_value.Goals as goal
use Rattle.evaluator.specs.Rest.{waiting}

pub returns-in-Some-Ordinal-clause-moves : goal.returns-in-Some-Ordinal-clause-moves
returns-in-Some-Ordinal-clause-moves c p =
    let n = c.in-Some-Ordinal in
    let e : c.args.base ≡ Some (TypeRow.Ordinal n.least n.greatest) = n.is ∙ ap Some (rw n.is at n.field-0-is) in
    let l : to_z w32 (of_z w32 n.least) ≡ n.least = search rules in
    let g : to_z w32 (of_z w32 n.greatest) ≡ n.greatest = search rules in
    moves_on (c.scalar.ensures.moves p (action.set_at n.least n.greatest c.args.addr) (moment_of c.args.machine.now) (moment_of c.set_at.new.machine) (rw (l, g)
    at c.set_at.ensures.action)) (ap (λ k. bind (with_bounds k (λ least greatest. doing c.args.line (action.set_at least greatest c.args.addr) scalar)) (waiting
    p c.args.body.now)) e) (omega arith)

pub returns-in-Some-Subrange-clause-moves : goal.returns-in-Some-Subrange-clause-moves
returns-in-Some-Subrange-clause-moves c p =
    let n = c.in-Some-Subrange in
    let e : c.args.base ≡ Some (TypeRow.Subrange n.field-0-0 n.least n.greatest) = n.is ∙ ap Some (rw n.is at n.field-0-is) in
    let l : to_z w32 (of_z w32 n.least) ≡ n.least = search rules in
    let g : to_z w32 (of_z w32 n.greatest) ≡ n.greatest = search rules in
    moves_on (c.scalar-in-Some-Subrange.ensures.moves p (action.set_at n.least n.greatest c.args.addr) (moment_of c.args.machine.now) (moment_of
    c.set_at-in-Some-Subrange.new.machine) (rw (l, g) at c.set_at-in-Some-Subrange.ensures.action)) (ap (λ k. bind (with_bounds k (λ least greatest. doing
    c.args.line (action.set_at least greatest c.args.addr) scalar)) (waiting p c.args.body.now)) e) (omega arith)
