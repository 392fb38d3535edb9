use Rattle.std.{proofs.Common.Err, proofs.Common.Ok, proofs.Common.ap, proofs.lemmas.Result.err_from_is_err_and, specs.Global.Vec}
use Rattle.core_program.specs.{Conformant.extents_at, Conformant.whole_over, declared.components.Extent.Extent}
use Rattle.eval_ops.proofs.ActionsCompose.{does_bind, does_stop, same_does}
use Rattle.eval_ops.proofs.conformant.whole_at.Goals as goal
use Rattle.eval_ops.specs.{Conformant.whole, Machines.moment_of}

pub returns-in_err-extents-clause-action : goal.returns-in_err-extents-clause-action
returns-in_err-extents-clause-action c =
    let p = err_from_is_err_and c.from_residual.result c.from_residual.ensures.1 in
    rw (p.1, p.2) (does_stop {X = Vec Extent} (λ es. es.items) whole (extents_at c.args.array.now.specs.items c.args.frame)
    (λ es. whole_over es c.args.array.now.size c.args.addr) (moment_of c.args.machine.now) (moment_of c.extents_at.new.machine) _
    (same_does {X = Vec Extent} (λ es. es.items) (extents_at c.deref.result.now c.args.frame) (extents_at c.args.array.now.specs.items c.args.frame) (Err _)
    (moment_of c.args.machine.now) (moment_of c.extents_at.new.machine) (ap (λ l. extents_at l c.args.frame) c.deref.ensures.value)
    c.in_err-extents.ensures.action))

pub returns-in_err-whole-clause-action : goal.returns-in_err-whole-clause-action
returns-in_err-whole-clause-action c =
    let p = err_from_is_err_and c.from_residual-in_err-whole.result c.from_residual-in_err-whole.ensures.1 in
    rw (p.1, p.2) (does_bind whole (extents_at c.args.array.now.specs.items c.args.frame) (λ es. whole_over es c.args.array.now.size c.args.addr)
    c.in_ok-extents.extents.items (moment_of c.args.machine.now) (moment_of c.extents_at.new.machine) (moment_of c.whole_over.new.machine) (Err _)
    (rw c.deref.ensures.value at c.in_ok-extents.ensures.action) c.in_err-whole.ensures.action)

pub returns-clause-action : goal.returns-clause-action
returns-clause-action c =
    does_bind whole (extents_at c.args.array.now.specs.items c.args.frame) (λ es. whole_over es c.args.array.now.size c.args.addr)
    c.in_ok-extents.extents.items (moment_of c.args.machine.now) (moment_of c.extents_at.new.machine) (moment_of c.whole_over.new.machine)
    (Ok c.in_ok-whole.whole) (rw c.deref.ensures.value at c.in_ok-extents.ensures.action) c.in_ok-whole.ensures.action
