use Rattle.std.{proofs.Common.Err, proofs.Common.Ok, proofs.Common.ap, proofs.lemmas.Result.err_from_is_err_and, specs.Global.Vec}
use Rattle.core_program.specs.{Conformant.component_or_fault, Conformant.components_over, Conformant.extents_at, declared.components.Extent.Extent}
use Rattle.eval_ops.proofs.ActionsCompose.{does_bind, does_given, does_stop, same_does, same_gives}
use Rattle.eval_ops.proofs.conformant.component_at.Goals as goal
use Rattle.eval_ops.specs.Machines.{moment_of}

pub returns-in_err-extents-clause-action : goal.returns-in_err-extents-clause-action
returns-in_err-extents-clause-action c =
    let p = err_from_is_err_and c.from_residual.result c.from_residual.ensures.1 in
    rw (p.1, p.2) (does_stop {X = Vec Extent} (λ es. es.items) (λ a. a) (extents_at c.args.array.now.specs.items c.args.frame)
    (λ es. component_or_fault (components_over es c.args.array.now.size) c.args.addr c.args.value) (moment_of c.args.machine.now)
    (moment_of c.extents_at.new.machine) _ (same_does {X = Vec Extent} (λ es. es.items) (extents_at c.deref.result.now c.args.frame)
    (extents_at c.args.array.now.specs.items c.args.frame) (Err _) (moment_of c.args.machine.now) (moment_of c.extents_at.new.machine)
    (ap (λ l. extents_at l c.args.frame) c.deref.ensures.value) c.in_err-extents.ensures.action))

pub returns-in_err-addr-clause-action : goal.returns-in_err-addr-clause-action
returns-in_err-addr-clause-action c =
    let p = err_from_is_err_and c.from_residual-in_err-addr.result c.from_residual-in_err-addr.ensures.1 in
    let m = moment_of c.extents_at.new.machine in
    rw (p.1, p.2) (does_bind (λ a. a) (extents_at c.args.array.now.specs.items c.args.frame)
    (λ es. component_or_fault (components_over es c.args.array.now.size) c.args.addr c.args.value) c.in_ok-extents.extents.items
    (moment_of c.args.machine.now) m m (Err _) (rw c.deref.ensures.value at c.in_ok-extents.ensures.action)
    (does_given (λ a. a) (component_or_fault (components_over c.in_ok-extents.extents.items c.args.array.now.size) c.args.addr c.args.value) (Err _) m
    (same_gives (λ a. a) (component_or_fault (components_over c.deref-2.result.now c.args.array.now.size) c.args.addr c.args.value)
    (component_or_fault (components_over c.in_ok-extents.extents.items c.args.array.now.size) c.args.addr c.args.value) (Err _)
    (ap (λ l. component_or_fault (components_over l c.args.array.now.size) c.args.addr c.args.value) c.deref-2.ensures.value) c.in_err-addr.ensures)))

pub returns-clause-action : goal.returns-clause-action
returns-clause-action c =
    let m = moment_of c.extents_at.new.machine in
    does_bind (λ a. a) (extents_at c.args.array.now.specs.items c.args.frame)
    (λ es. component_or_fault (components_over es c.args.array.now.size) c.args.addr c.args.value) c.in_ok-extents.extents.items
    (moment_of c.args.machine.now) m m (Ok c.in_ok-addr.addr) (rw c.deref.ensures.value at c.in_ok-extents.ensures.action)
    (does_given (λ a. a) (component_or_fault (components_over c.in_ok-extents.extents.items c.args.array.now.size) c.args.addr c.args.value)
    (Ok c.in_ok-addr.addr) m (rw c.deref-2.ensures.value at c.in_ok-addr.ensures))
