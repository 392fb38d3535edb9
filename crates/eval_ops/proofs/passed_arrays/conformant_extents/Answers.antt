use Rattle.std.proofs.Common.{◌++◌, Err, Ok, ap, sym}
use Rattle.std.{proofs.lemmas.Result.err_from_is_err_and, specs.Global.Vec}
use Rattle.core_program.specs.{Actions.Give, Conformant.extents_at, Conformant.inner_extents, declared.components.Extent.Extent}
use Rattle.eval_ops.proofs.ActionsCompose.{does_both, does_given, same_does, stops_second}
use Rattle.eval_ops.proofs.passed_arrays.conformant_extents.Goals as goal
use Rattle.eval_ops.specs.{Conformant.dimensions, Conformant.dimensions_meant, Machines.moment_of}

pub returns-in_err-extents-clause-action : goal.returns-in_err-extents-clause-action
returns-in_err-extents-clause-action c =
    let p = err_from_is_err_and c.from_residual-in_err-extents.result c.from_residual-in_err-extents.ensures.1 in
    let m = moment_of c.args.machine.now in
    let t = c.args.program.now in
    let d = dimensions_meant t c.args.of in
    rw (p.1, p.2) (stops_second {X = Vec Extent} {Y = Vec Extent} (λ es. es.items) (λ es. es.items) d (λ d. extents_at d.specs c.args.frame)
    (λ d es. Give (es ++ inner_extents t d c.args.schema.now)) (dimensions c.in_ok-array.array) _ m m (moment_of c.extents_at.new.machine)
    (does_given dimensions d (Ok c.in_ok-array.array) m c.in_ok-array.ensures.meant) (same_does {X = Vec Extent} (λ es. es.items)
    (extents_at c.deref.result.now c.args.frame) (extents_at c.in_ok-array.array.specs.items c.args.frame) (Err _) m (moment_of c.extents_at.new.machine)
    (ap (λ l. extents_at l c.args.frame) c.deref.ensures.value) c.in_err-extents.ensures.action))

pub returns-clause-action : goal.returns-clause-action
returns-clause-action c =
    let m = moment_of c.args.machine.now in
    let t = c.args.program.now in
    let d = dimensions_meant t c.args.of in
    does_both (λ es. es.items) d (λ d. extents_at d.specs c.args.frame) (λ d es. es ++ inner_extents t d c.args.schema.now) (dimensions c.in_ok-array.array)
    c.in_ok-extents.extents.items c.add_inner_extents.new.extents m m (moment_of c.extents_at.new.machine)
    (does_given dimensions d (Ok c.in_ok-array.array) m c.in_ok-array.ensures.meant) (rw c.deref.ensures.value at c.in_ok-extents.ensures.action)
    (sym c.in_ok-add_inner_extents.ensures)
