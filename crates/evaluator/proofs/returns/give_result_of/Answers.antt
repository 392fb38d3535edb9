use Rattle.std.proofs.Common.{◌∙◌, ◌≡◌, Some, ap, rules}
use mir.Syntax.{w32}
use mir.Val.{of_z, to_z}
use Rattle.core_program.specs.{Heap.pointer_result_at, Run.result_of_type, Run.result_read, declared.rows.TypeRow.TypeRow}
use Rattle.core_program.specs.State as state
use Rattle.eval_ops.specs.Machines.{moment_of}
use Rattle.evaluator.proofs.Turning.{turns_same}
use Rattle.evaluator.proofs.returns.give_result_of.Goals as goal

pub returns-in-Some-Ordinal-clause-turns : goal.returns-in-Some-Ordinal-clause-turns
returns-in-Some-Ordinal-clause-turns c =
    let p = c.args.program.now in
    let e : c.args.kind ≡ Some (TypeRow.Ordinal c.in-Some-Ordinal.least c.in-Some-Ordinal.greatest) = c.in-Some-Ordinal.is ∙ ap Some
    (rw c.in-Some-Ordinal.is at c.in-Some-Ordinal.field-0-is) in
    let l : to_z w32 (of_z w32 c.in-Some-Ordinal.least) ≡ c.in-Some-Ordinal.least = search rules in
    let g : to_z w32 (of_z w32 c.in-Some-Ordinal.greatest) ≡ c.in-Some-Ordinal.greatest = search rules in
    turns_same p _ _ _ _ c.give.result c.give.new.body
    (ap (result_of_type c.args.line (state.moved c.args.body.now.home.base c.args.place)) e)
    (c.give.ensures.turns p (result_read c.in-Some-Ordinal.least c.in-Some-Ordinal.greatest (state.moved c.args.body.now.home.base c.args.place))
    (moment_of c.args.machine.now)
    (moment_of c.result_at.new.machine) (rw (l, g, c.moved.ensures) at c.result_at.ensures.action))

pub returns-in-Some-Subrange-clause-turns : goal.returns-in-Some-Subrange-clause-turns
returns-in-Some-Subrange-clause-turns c =
    let p = c.args.program.now in
    let e : c.args.kind ≡ Some (TypeRow.Subrange c.in-Some-Subrange.field-0-0 c.in-Some-Subrange.least c.in-Some-Subrange.greatest) =
    c.in-Some-Subrange.is ∙ ap Some (rw c.in-Some-Subrange.is at c.in-Some-Subrange.field-0-is) in
    let l : to_z w32 (of_z w32 c.in-Some-Subrange.least) ≡ c.in-Some-Subrange.least = search rules in
    let g : to_z w32 (of_z w32 c.in-Some-Subrange.greatest) ≡ c.in-Some-Subrange.greatest = search rules in
    turns_same p _ _ _ _ c.give-in-Some-Subrange.result c.give-in-Some-Subrange.new.body
    (ap (result_of_type c.args.line (state.moved c.args.body.now.home.base c.args.place)) e)
    (c.give-in-Some-Subrange.ensures.turns p (result_read c.in-Some-Subrange.least c.in-Some-Subrange.greatest
    (state.moved c.args.body.now.home.base c.args.place)) (moment_of c.args.machine.now)
    (moment_of c.result_at-in-Some-Subrange.new.machine) (rw (l, g, c.moved-in-Some-Subrange.ensures) at c.result_at-in-Some-Subrange.ensures.action))

pub returns-in-Some-Pointer-clause-turns : goal.returns-in-Some-Pointer-clause-turns
returns-in-Some-Pointer-clause-turns c =
    let p = c.args.program.now in
    let n = c.in-Some-Pointer in
    let e : c.args.kind ≡ Some (TypeRow.Pointer n.field-0-0) = n.is ∙ ap Some (rw n.is at n.field-0-is) in
    turns_same p _ _ _ _ c.give-in-Some-Pointer.result c.give-in-Some-Pointer.new.body
    (ap (result_of_type c.args.line (state.moved c.args.body.now.home.base c.args.place)) e)
    (c.give-in-Some-Pointer.ensures.turns p (pointer_result_at (state.moved c.args.body.now.home.base c.args.place))
    (moment_of c.args.machine.now)
    (moment_of c.pointer_result_at-done.new.machine) (rw c.moved-in-Some-Pointer.ensures at c.pointer_result_at-done.ensures.action))
