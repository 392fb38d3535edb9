use Rattle.std.proofs.Common.{◌-◌, ◌∙◌, Err, Ok, Some, ap, refl, subst, sym}
use Rattle.std.proofs.lemmas.Result.{err_from_is_err_and}
use Rattle.core_program.specs.{Actions.Give, Actions.performs, Variants.all_entered, Variants.variant_entered}
use Rattle.eval_ops.proofs.ActionsCompose.{does_bind, does_given, does_stop}
use Rattle.eval_ops.proofs.VariantsEntered.{entered_next, entered_none}
use Rattle.eval_ops.proofs.variants.+enter_all.Goals as goal
use Rattle.eval_ops.specs.Machines.{DoesAll, machine_state, moment_of}

pub returns-in_err-enter_all-in-Some-Some-clause-action : goal.returns-in_err-enter_all-in-Some-Some-clause-action
returns-in_err-enter_all-in-Some-Some-clause-action t c =
    let p = err_from_is_err_and c.from_residual.result c.from_residual.ensures.1 in
    let e = entered_next c.args.program.now c.args.target c.args.addr c.args.most c.args.holder c.in-Some-Some.variant c.if-most-eq0.false
    (sym c.variant_at.ensures ∙ c.in-Some-Some.is ∙ ap Some c.in-Some-Some.field-0-is) c.if-variant-holder.false in
    subst (λ a. DoesAll (λ _. tt) (performs a (machine_state c.args.machine.now)) c.from_residual.result (moment_of c.args.machine.now)
    (moment_of c.enter_all.new.machine)) (sym e) (rw (p.1, p.2) (does_stop {X = Unit {0}} {Y = Unit {0}} (λ _. tt) (λ _. tt)
    (all_entered c.args.program.now c.args.target c.args.addr (c.args.most - 1) c.in-Some-Some.variant.0.holder)
    (λ _. variant_entered c.args.program.now c.args.target c.args.addr c.in-Some-Some.variant.0 c.in-Some-Some.variant.1) (moment_of c.args.machine.now)
    (moment_of c.enter_all.new.machine) _ c.in_err-enter_all-in-Some-Some.ensures.action))

pub returns-in_err-enter-in-Some-Some-clause-action : goal.returns-in_err-enter-in-Some-Some-clause-action
returns-in_err-enter-in-Some-Some-clause-action t c =
    let p = err_from_is_err_and c.from_residual-in_err-enter-in-Some-Some.result c.from_residual-in_err-enter-in-Some-Some.ensures.1 in
    let e = entered_next c.args.program.now c.args.target c.args.addr c.args.most c.args.holder c.in-Some-Some.variant c.if-most-eq0.false
    (sym c.variant_at.ensures ∙ c.in-Some-Some.is ∙ ap Some c.in-Some-Some.field-0-is) c.if-variant-holder.false in
    subst (λ a. DoesAll (λ _. tt) (performs a (machine_state c.args.machine.now)) c.from_residual-in_err-enter-in-Some-Some.result
    (moment_of c.args.machine.now) (moment_of c.enter.new.machine)) (sym e) (rw (p.1, p.2) (does_bind {Y = Unit {0}} (λ _. tt)
    (all_entered c.args.program.now c.args.target c.args.addr (c.args.most - 1) c.in-Some-Some.variant.0.holder)
    (λ _. variant_entered c.args.program.now c.args.target c.args.addr c.in-Some-Some.variant.0 c.in-Some-Some.variant.1) tt (moment_of c.args.machine.now)
    (moment_of c.enter_all.new.machine) (moment_of c.enter.new.machine) (Err _) c.in_ok-enter_all-in-Some-Some.ensures.action
    c.in_err-enter-in-Some-Some.ensures.action))

pub returns-in_ok-enter-in-Some-Some-clause-action : goal.returns-in_ok-enter-in-Some-Some-clause-action
returns-in_ok-enter-in-Some-Some-clause-action t c =
    let e = entered_next c.args.program.now c.args.target c.args.addr c.args.most c.args.holder c.in-Some-Some.variant c.if-most-eq0.false
    (sym c.variant_at.ensures ∙ c.in-Some-Some.is ∙ ap Some c.in-Some-Some.field-0-is) c.if-variant-holder.false in
    subst (λ a. DoesAll {X = Unit {0}} (λ _. tt) (performs a (machine_state c.args.machine.now)) (Ok tt) (moment_of c.args.machine.now)
    (moment_of c.enter.new.machine)) (sym e) (does_bind {Y = Unit {0}} (λ _. tt)
    (all_entered c.args.program.now c.args.target c.args.addr (c.args.most - 1) c.in-Some-Some.variant.0.holder)
    (λ _. variant_entered c.args.program.now c.args.target c.args.addr c.in-Some-Some.variant.0 c.in-Some-Some.variant.1) tt (moment_of c.args.machine.now)
    (moment_of c.enter_all.new.machine) (moment_of c.enter.new.machine) (Ok tt) c.in_ok-enter_all-in-Some-Some.ensures.action
    c.in_ok-enter-in-Some-Some.ensures.action)

pub returns-in-Some-None-clause-action : goal.returns-in-Some-None-clause-action
returns-in-Some-None-clause-action t c =
    subst (λ a. DoesAll {X = Unit {0}} (λ _. tt) (performs a (machine_state c.args.machine.now)) (Ok tt) (moment_of c.args.machine.now)
    (moment_of c.args.machine.now)) (sym (entered_none c.args.program.now c.args.target c.args.addr c.args.most c.args.holder
    c.if-most-eq0.false (sym c.variant_at.ensures ∙ c.in-Some-None.is ∙ ap Some c.in-Some-None.field-0-is)))
    (does_given {X = Unit {0}} (λ _. tt) (Give tt) (Ok tt) (moment_of c.args.machine.now) refl)
