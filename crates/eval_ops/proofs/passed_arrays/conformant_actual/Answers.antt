use Rattle.std.proofs.{Common.Err, Common.Ok, Common.ap, lemmas.Result.err_from_is_err_and}
use Rattle.eval_ops.proofs.ActionsCompose.{does_given, does_third, same_does, same_gives, stops_second}
use Rattle.eval_ops.proofs.passed_arrays.conformant_actual.Goals as goal
use Rattle.eval_ops.specs.Conformant.{actual, conformant_copied, dimensions, dimensions_meant, whole, whole_passed}
use Rattle.eval_ops.specs.Machines.{moment_of}

pub returns-in_err-whole-clause-action : goal.returns-in_err-whole-clause-action
returns-in_err-whole-clause-action c =
    let p = err_from_is_err_and c.from_residual-in_err-whole.result c.from_residual-in_err-whole.ensures.1 in
    let m = moment_of c.args.machine.now in
    let d = dimensions_meant c.args.program.now c.args.of in
    rw (p.1, p.2) (stops_second whole actual d (λ s. conformant_copied c.args.program.now s.specs c.args.actual c.args.addr c.args.frame)
    (λ s w. whole_passed c.args.first s.specs w) (dimensions c.in_ok-schema.schema) _ m m (moment_of c.conformant_copied.new.machine)
    (does_given dimensions d (Ok c.in_ok-schema.schema) m c.in_ok-schema.ensures.meant)
    (same_does whole (conformant_copied c.args.program.now c.deref.result.now c.args.actual c.args.addr c.args.frame)
    (conformant_copied c.args.program.now c.in_ok-schema.schema.specs.items c.args.actual c.args.addr c.args.frame) (Err _) m
    (moment_of c.conformant_copied.new.machine)
    (ap (λ l. conformant_copied c.args.program.now l c.args.actual c.args.addr c.args.frame) c.deref.ensures.value) c.in_err-whole.ensures.action))

pub returns-in_err-passed-clause-action : goal.returns-in_err-passed-clause-action
returns-in_err-passed-clause-action c =
    let p = err_from_is_err_and c.from_residual-in_err-passed.result c.from_residual-in_err-passed.ensures.1 in
    let m = moment_of c.args.machine.now in
    let n = moment_of c.conformant_copied.new.machine in
    let d = dimensions_meant c.args.program.now c.args.of in
    let s = c.in_ok-schema.schema in
    rw (p.1, p.2) (does_third actual d (λ s. conformant_copied c.args.program.now s.specs c.args.actual c.args.addr c.args.frame)
    (λ s w. whole_passed c.args.first s.specs w) (dimensions s) (whole c.in_ok-whole.whole) m m n n (Err _)
    (does_given dimensions d (Ok s) m c.in_ok-schema.ensures.meant) (rw c.deref.ensures.value at c.in_ok-whole.ensures.action)
    (does_given actual (whole_passed c.args.first s.specs.items (whole c.in_ok-whole.whole)) (Err _) n
    (same_gives actual (whole_passed c.args.first c.deref-2.result.now (whole c.in_ok-whole.whole))
    (whole_passed c.args.first s.specs.items (whole c.in_ok-whole.whole)) (Err _)
    (ap (λ l. whole_passed c.args.first l (whole c.in_ok-whole.whole)) c.deref-2.ensures.value) c.in_err-passed.ensures)))

pub returns-clause-action : goal.returns-clause-action
returns-clause-action c =
    let m = moment_of c.args.machine.now in
    let n = moment_of c.conformant_copied.new.machine in
    let d = dimensions_meant c.args.program.now c.args.of in
    let s = c.in_ok-schema.schema in
    does_third actual d (λ s. conformant_copied c.args.program.now s.specs c.args.actual c.args.addr c.args.frame) (λ s w. whole_passed c.args.first s.specs w)
    (dimensions s) (whole c.in_ok-whole.whole) m m n n (Ok c.in_ok-passed.passed)
    (does_given dimensions d (Ok s) m c.in_ok-schema.ensures.meant) (rw c.deref.ensures.value at c.in_ok-whole.ensures.action)
    (does_given actual (whole_passed c.args.first s.specs.items (whole c.in_ok-whole.whole)) (Ok c.in_ok-passed.passed) n
    (rw c.deref-2.ensures.value at c.in_ok-passed.ensures))
