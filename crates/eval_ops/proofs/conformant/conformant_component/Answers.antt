use Rattle.std.proofs.{Common.Err, Common.Ok, lemmas.Result.err_from_is_err_and}
use Rattle.core_program.specs.Conformant.{conformant_component_at}
use Rattle.eval_ops.proofs.ActionsCompose.{does_bind, does_given}
use Rattle.eval_ops.proofs.conformant.conformant_component.Goals as goal
use Rattle.eval_ops.specs.{Conformant.dimensions, Conformant.dimensions_meant, Machines.moment_of}

pub returns-in_err-addr-clause-action : goal.returns-in_err-addr-clause-action
returns-in_err-addr-clause-action c =
    let p = err_from_is_err_and c.from_residual-in_err-addr.result c.from_residual-in_err-addr.ensures.1 in
    let m = moment_of c.args.machine.now in
    let d = dimensions_meant c.args.program.now c.args.of in
    rw (p.1, p.2) (does_bind (λ a. a) d (λ d. conformant_component_at d c.args.addr c.args.frame c.args.value) (dimensions c.in_ok-array.array) m m
    (moment_of c.component_at.new.machine) (Err _) (does_given dimensions d (Ok c.in_ok-array.array) m c.in_ok-array.ensures.meant)
    c.in_err-addr.ensures.action)

pub returns-clause-action : goal.returns-clause-action
returns-clause-action c =
    let m = moment_of c.args.machine.now in
    let d = dimensions_meant c.args.program.now c.args.of in
    does_bind (λ a. a) d (λ d. conformant_component_at d c.args.addr c.args.frame c.args.value) (dimensions c.in_ok-array.array) m m
    (moment_of c.component_at.new.machine) (Ok c.in_ok-addr.addr) (does_given dimensions d (Ok c.in_ok-array.array) m c.in_ok-array.ensures.meant)
    c.in_ok-addr.ensures.action
