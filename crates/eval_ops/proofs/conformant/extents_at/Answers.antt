use Rattle.std.{proofs.Common.[], proofs.Common.Err, proofs.Common.Ok, proofs.lemmas.Result.err_from_is_err_and, specs.Global.Vec}
use Rattle.core_program.specs.Conformant.{bound_cells, extents_held, or_undefined, read_each}
use Rattle.core_program.specs.declared.components.Extent.{Extent}
use Rattle.eval_ops.proofs.ActionsCompose.{does_bind, does_given, does_stop}
use Rattle.eval_ops.proofs.conformant.extents_at.Goals as goal
use Rattle.eval_ops.specs.Machines.{moment_of}

pub returns-in_err-values-clause-action : goal.returns-in_err-values-clause-action
returns-in_err-values-clause-action c =
    let p = err_from_is_err_and c.from_residual.result c.from_residual.ensures.1 in
    rw (p.1, p.2) (does_stop {Y = Vec Extent} (λ vs. vs) (λ es. es.items) (read_each [] (bound_cells c.args.frame c.args.specs.now))
    (λ vs. or_undefined (extents_held c.args.specs.now vs)) (moment_of c.args.machine.now) (moment_of c.read_bounds.new.machine) _
    c.in_err-values.ensures.action)

pub returns-in_err-extents-clause-action : goal.returns-in_err-extents-clause-action
returns-in_err-extents-clause-action c =
    let p = err_from_is_err_and c.from_residual-in_err-extents.result c.from_residual-in_err-extents.ensures.1 in
    let m = moment_of c.read_bounds.new.machine in
    rw (p.1, p.2) (does_bind {Y = Vec Extent} (λ es. es.items) (read_each [] (bound_cells c.args.frame c.args.specs.now))
    (λ vs. or_undefined (extents_held c.args.specs.now vs)) c.in_ok-values.values (moment_of c.args.machine.now) m m (Err _) c.in_ok-values.ensures.action
    (does_given {X = Vec Extent} (λ es. es.items) (or_undefined (extents_held c.args.specs.now c.in_ok-values.values)) (Err _) m c.in_err-extents.ensures))

pub returns-clause-action : goal.returns-clause-action
returns-clause-action c =
    let m = moment_of c.read_bounds.new.machine in
    does_bind (λ es. es.items) (read_each [] (bound_cells c.args.frame c.args.specs.now)) (λ vs. or_undefined (extents_held c.args.specs.now vs))
    c.in_ok-values.values (moment_of c.args.machine.now) m m (Ok c.in_ok-extents.extents) c.in_ok-values.ensures.action
    (does_given (λ es. es.items) (or_undefined (extents_held c.args.specs.now c.in_ok-values.values)) (Ok c.in_ok-extents.extents) m c.in_ok-extents.ensures)
