use Rattle.std.proofs.Common.{◌+◌, ◌∙◌, ◌≡◌, Err, Ok, Some, refl, subst, sym}
use Rattle.std.proofs.lemmas.Result.{err_from_is_err_and}
use Rattle.core_program.specs.{Actions.Give, Actions.performs, State.moved, Variants.all_entered, Variants.field_held, Variants.field_in}
use Rattle.eval_ops.proofs.ActionsCompose.{does_bind, does_given, does_stop}
use Rattle.eval_ops.proofs.variants.field_at.Goals as goal
use Rattle.eval_ops.specs.Machines.{DoesAll, machine_state, moment_of}

pub returns-in_err-enter_all-in-Some-clause-action : goal.returns-in_err-enter_all-in-Some-clause-action
returns-in_err-enter_all-in-Some-clause-action c =
    let p = err_from_is_err_and c.from_residual.result c.from_residual.ensures.1 in
    let e : field_in c.args.row ≡ Some (c.in-Some.offset, c.in-Some.holder) = sym c.field_in.ensures ∙ c.in-Some.is in
    subst (λ o. DoesAll (λ a. a) (performs (field_held c.args.program.now c.args.target c.args.addr o) (machine_state c.args.machine.now))
    c.from_residual.result (moment_of c.args.machine.now) (moment_of c.enter_all.new.machine)) (sym e) (rw (p.1, p.2)
    (does_stop {X = Unit {0}} (λ _. tt) (λ a. a)
    (all_entered c.args.program.now c.args.target c.args.addr (c.in-Some.holder + 1) c.in-Some.holder) (λ _. Give (moved c.args.addr c.in-Some.offset))
    (moment_of c.args.machine.now) (moment_of c.enter_all.new.machine) _ (subst (λ n. DoesAll {X = Unit {0}} (λ _. tt)
    (performs (all_entered c.args.program.now c.args.target c.args.addr (n + 1) c.in-Some.holder) (machine_state c.args.machine.now))
    (Err c.in_err-enter_all-in-Some.field-0.0) (moment_of c.args.machine.now) (moment_of c.enter_all.new.machine)) c.from-most.ensures
    c.in_err-enter_all-in-Some.ensures.action)))

pub returns-in_ok-enter_all-in-Some-clause-action : goal.returns-in_ok-enter_all-in-Some-clause-action
returns-in_ok-enter_all-in-Some-clause-action c =
    let e : field_in c.args.row ≡ Some (c.in-Some.offset, c.in-Some.holder) = sym c.field_in.ensures ∙ c.in-Some.is in
    subst (λ o. DoesAll (λ a. a) (performs (field_held c.args.program.now c.args.target c.args.addr o) (machine_state c.args.machine.now))
    (Ok c.moved.result) (moment_of c.args.machine.now) (moment_of c.enter_all.new.machine)) (sym e) (rw c.moved.ensures (does_bind (λ a. a)
    (all_entered c.args.program.now c.args.target c.args.addr (c.in-Some.holder + 1) c.in-Some.holder) (λ _. Give (moved c.args.addr c.in-Some.offset)) tt
    (moment_of c.args.machine.now) (moment_of c.enter_all.new.machine) (moment_of c.enter_all.new.machine) (Ok (moved c.args.addr c.in-Some.offset))
    (subst (λ n. DoesAll {X = Unit {0}} (λ _. tt)
    (performs (all_entered c.args.program.now c.args.target c.args.addr (n + 1) c.in-Some.holder) (machine_state c.args.machine.now)) (Ok tt)
    (moment_of c.args.machine.now) (moment_of c.enter_all.new.machine)) c.from-most.ensures c.in_ok-enter_all-in-Some.ensures.action)
    (does_given (λ a. a) (Give (moved c.args.addr c.in-Some.offset)) (Ok (moved c.args.addr c.in-Some.offset))
    (moment_of c.enter_all.new.machine) refl)))
