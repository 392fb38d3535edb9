use Rattle.std.{proofs.Common.◌∙◌, proofs.Common.Err, proofs.Common.Ok, proofs.Common.ap, proofs.lemmas.Result.err_from_is_err_and, specs.Global.Vec}
use Rattle.core_program.specs.declared.components.Extent.{Extent}
use Rattle.eval_ops.proofs.ActionsCompose.{does_given, does_third, same_does, same_gives, stops_second}
use Rattle.eval_ops.proofs.passed_arrays.place_bounds.Goals as goal
use Rattle.eval_ops.specs.{Conformant.bounds_passed, Conformant.conformant_extents, Conformant.dimensions, Conformant.dimensions_meant, Machines.moment_of}

pub returns-in_err-extents-clause-action : goal.returns-in_err-extents-clause-action
returns-in_err-extents-clause-action c =
    let p = err_from_is_err_and c.from_residual-in_err-extents.result c.from_residual-in_err-extents.ensures.1 in
    let m = moment_of c.args.machine.now in
    let d = dimensions_meant c.args.program.now c.args.of in
    rw (p.1, p.2) (stops_second {X = Vec Extent} (λ es. es.items) (λ vs. vs) d (λ s. conformant_extents c.args.program.now s.specs c.args.actual c.args.frame)
    (λ s es. bounds_passed c.args.first s.specs es) (dimensions c.in_ok-schema.schema) _ m m (moment_of c.conformant_extents.new.machine)
    (does_given dimensions d (Ok c.in_ok-schema.schema) m c.in_ok-schema.ensures.meant) (same_does {X = Vec Extent} (λ es. es.items)
    (conformant_extents c.args.program.now c.deref.result.now c.args.actual c.args.frame)
    (conformant_extents c.args.program.now c.in_ok-schema.schema.specs.items c.args.actual c.args.frame) (Err _) m
    (moment_of c.conformant_extents.new.machine) (ap (λ l. conformant_extents c.args.program.now l c.args.actual c.args.frame) c.deref.ensures.value)
    c.in_err-extents.ensures.action))

pub returns-in_err-bounds-clause-action : goal.returns-in_err-bounds-clause-action
returns-in_err-bounds-clause-action c =
    let p = err_from_is_err_and c.from_residual-in_err-bounds.result c.from_residual-in_err-bounds.ensures.1 in
    let m = moment_of c.args.machine.now in
    let n = moment_of c.conformant_extents.new.machine in
    let d = dimensions_meant c.args.program.now c.args.of in
    let s = c.in_ok-schema.schema in
    rw (p.1, p.2) (does_third (λ vs. vs) d (λ s. conformant_extents c.args.program.now s.specs c.args.actual c.args.frame)
    (λ s es. bounds_passed c.args.first s.specs es) (dimensions s) c.in_ok-extents.extents.items m m n n (Err _)
    (does_given dimensions d (Ok s) m c.in_ok-schema.ensures.meant) (rw c.deref.ensures.value at c.in_ok-extents.ensures.action)
    (does_given (λ vs. vs) (bounds_passed c.args.first s.specs.items c.in_ok-extents.extents.items) (Err _) n
    (same_gives (λ vs. vs) (bounds_passed c.args.first c.deref-2.result.now c.deref-3.result.now)
    (bounds_passed c.args.first s.specs.items c.in_ok-extents.extents.items) (Err _)
    (ap (λ l. bounds_passed c.args.first l c.deref-3.result.now) c.deref-2.ensures.value
    ∙ ap (bounds_passed c.args.first s.specs.items) c.deref-3.ensures.value) c.in_err-bounds.ensures)))

pub returns-clause-action : goal.returns-clause-action
returns-clause-action c =
    let m = moment_of c.args.machine.now in
    let n = moment_of c.conformant_extents.new.machine in
    let d = dimensions_meant c.args.program.now c.args.of in
    let s = c.in_ok-schema.schema in
    does_third (λ vs. vs) d (λ s. conformant_extents c.args.program.now s.specs c.args.actual c.args.frame)
    (λ s es. bounds_passed c.args.first s.specs es) (dimensions s) c.in_ok-extents.extents.items m m n n (Ok c.in_ok-bounds.bounds)
    (does_given dimensions d (Ok s) m c.in_ok-schema.ensures.meant) (rw c.deref.ensures.value at c.in_ok-extents.ensures.action)
    (does_given (λ vs. vs) (bounds_passed c.args.first s.specs.items c.in_ok-extents.extents.items) (Ok c.in_ok-bounds.bounds) n
    (rw (c.deref-2.ensures.value, c.deref-3.ensures.value) at c.in_ok-bounds.ensures))
