use Rattle.std.proofs.{Common.◌++◌, Common.Ok, Common.ap, Common.sym, lemmas.Result.err_from_is_err_and}
use Rattle.core_program.specs.{Actions.Give, Conformant.WholeArray, Conformant.inner_extents, Conformant.whole_at}
use Rattle.eval_ops.proofs.ActionsCompose.{does_both, does_given, stops_second}
use Rattle.eval_ops.proofs.passed_arrays.conformant_copied.Goals as goal
use Rattle.eval_ops.specs.{Conformant.dimensions, Conformant.dimensions_meant, Conformant.whole, Machines.moment_of}

pub returns-in_err-whole-clause-action : goal.returns-in_err-whole-clause-action
returns-in_err-whole-clause-action c =
    let p = err_from_is_err_and c.from_residual-in_err-whole.result c.from_residual-in_err-whole.ensures.1 in
    let m = moment_of c.args.machine.now in
    let t = c.args.program.now in
    let d = dimensions_meant t c.args.of in
    rw (p.1, p.2) (stops_second whole whole d (λ d. whole_at d c.args.addr c.args.frame)
    (λ d w. Give (record { extents = w.extents ++ inner_extents t d c.args.schema.now; cells = w.cells })) (dimensions c.in_ok-array.array) _ m m
    (moment_of c.whole_at.new.machine) (does_given dimensions d (Ok c.in_ok-array.array) m c.in_ok-array.ensures.meant) c.in_err-whole.ensures.action)

pub returns-clause-action : goal.returns-clause-action
returns-clause-action c =
    let m = moment_of c.args.machine.now in
    let t = c.args.program.now in
    let d = dimensions_meant t c.args.of in
    let w = c.in_ok-whole.whole in
    does_both whole d (λ d. whole_at d c.args.addr c.args.frame)
    (λ d w. record { extents = w.extents ++ inner_extents t d c.args.schema.now; cells = w.cells }) (dimensions c.in_ok-array.array) (whole w)
    (record w { extents = c.add_inner_extents.new.extents }) m m (moment_of c.whole_at.new.machine)
    (does_given dimensions d (Ok c.in_ok-array.array) m c.in_ok-array.ensures.meant) c.in_ok-whole.ensures.action
    (sym (ap (λ l. record { extents = l; cells = w.cells }) c.in_ok-add_inner_extents.ensures))
