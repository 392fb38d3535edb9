use Rattle.std.proofs.Common.{◌∙◌, ◌≡◌, Some, ap, arith, rules, sym}
use mir.Syntax.{w32}
use mir.Val.{of_z, to_z}
use Rattle.core_program.specs.{Accesses.scalar, Accesses.value_at, Accesses.with_bounds, Heap.pointer_at, Tree.bind, Tree.doing, declared.rows.TypeRow.TypeRow}
use Rattle.core_program.specs.Cells as action
use Rattle.eval_ops.specs.Machines.{moment_of}
use Rattle.evaluator.proofs.Turning.{moves_on}
use Rattle.evaluator.proofs.accesses.variable_value.Goals as goal
use Rattle.evaluator.specs.Rest.{waiting}

pub returns-in-Some-Ordinal-clause-moves : goal.returns-in-Some-Ordinal-clause-moves
returns-in-Some-Ordinal-clause-moves c =
    let p = c.args.program.now in
    let e : c.args.kind ≡ Some (TypeRow.Ordinal c.in-Some-Ordinal.least c.in-Some-Ordinal.greatest) = c.in-Some-Ordinal.is ∙ ap Some (rw c.in-Some-Ordinal.is at
    c.in-Some-Ordinal.field-0-is) in
    let l : to_z w32 (of_z w32 c.in-Some-Ordinal.least) ≡ c.in-Some-Ordinal.least = search rules in
    let g : to_z w32 (of_z w32 c.in-Some-Ordinal.greatest) ≡ c.in-Some-Ordinal.greatest = search rules in
    moves_on (c.scalar.ensures.moves p (action.ordinal_at c.in-Some-Ordinal.least c.in-Some-Ordinal.greatest c.args.addr) (moment_of c.args.machine.now)
    (moment_of c.ordinal_at.new.machine) (rw (l, g) at c.ordinal_at.ensures.action)) (ap (λ k. bind (value_at p c.args.line c.args.addr k) (waiting p
    c.args.body.now)) e) (omega arith)

pub returns-in-Some-Subrange-clause-moves : goal.returns-in-Some-Subrange-clause-moves
returns-in-Some-Subrange-clause-moves c =
    let p = c.args.program.now in
    let e : c.args.kind ≡ Some (TypeRow.Subrange c.in-Some-Subrange.field-0-0 c.in-Some-Subrange.least c.in-Some-Subrange.greatest) = c.in-Some-Subrange.is ∙ ap
    Some (rw c.in-Some-Subrange.is at c.in-Some-Subrange.field-0-is) in
    let l : to_z w32 (of_z w32 c.in-Some-Subrange.least) ≡ c.in-Some-Subrange.least = search rules in
    let g : to_z w32 (of_z w32 c.in-Some-Subrange.greatest) ≡ c.in-Some-Subrange.greatest = search rules in
    moves_on (c.scalar-in-Some-Subrange.ensures.moves p (action.ordinal_at c.in-Some-Subrange.least c.in-Some-Subrange.greatest c.args.addr) (moment_of
    c.args.machine.now) (moment_of c.ordinal_at-in-Some-Subrange.new.machine) (rw (l, g) at c.ordinal_at-in-Some-Subrange.ensures.action)) (ap (λ k. bind
    (value_at p c.args.line c.args.addr k) (waiting p c.args.body.now)) e) (omega arith)

pub returns-in-Some-Set-clause-moves : goal.returns-in-Some-Set-clause-moves
returns-in-Some-Set-clause-moves c =
    let p = c.args.program.now in
    let n = c.in-Some-Set in
    let e : c.args.kind ≡ Some (TypeRow.Set n.field-0-0 n.base) = n.is ∙ ap Some (rw n.is at n.field-0-is) in
    moves_on (c.set_value.ensures.moves p) (ap (λ k. bind (value_at p c.args.line c.args.addr k) (waiting p c.args.body.now)) e ∙ ap (λ t. bind (with_bounds t
    (λ least greatest. doing c.args.line (action.set_at least greatest c.args.addr) scalar)) (waiting p c.args.body.now)) (sym c.type_row.ensures)) (omega
    arith)

pub returns-in-Some-Pointer-clause-moves : goal.returns-in-Some-Pointer-clause-moves
returns-in-Some-Pointer-clause-moves c =
    let p = c.args.program.now in
    let n = c.in-Some-Pointer in
    let e : c.args.kind ≡ Some (TypeRow.Pointer n.field-0-0) = n.is ∙ ap Some (rw n.is at n.field-0-is) in
    moves_on (c.scalar-in-Some-Pointer.ensures.moves p (pointer_at c.args.addr) (moment_of c.args.machine.now) (moment_of c.pointer_at.new.machine)
    c.pointer_at.ensures.action) (ap (λ k. bind (value_at p c.args.line c.args.addr k) (waiting p c.args.body.now)) e) (omega arith)
