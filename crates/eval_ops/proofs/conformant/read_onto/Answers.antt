use Rattle.std.proofs.Common.{◌++◌, ◌∷◌, [], List, Ok, ap, sym}
use Rattle.std.proofs.lemmas.Result.{err_from_is_err_and}
use Rattle.cell_value.specs.declared.values.Value.{Value}
use Rattle.core_program.specs.{Actions.Give, Cells.read_value}
use Rattle.eval_ops.proofs.ActionsCompose.{does_bind, does_given, does_stop}
use Rattle.eval_ops.proofs.conformant.read_onto.Goals as goal
use Rattle.eval_ops.specs.Machines.{moment_of}

pub returns-in_err-value-clause-action : goal.returns-in_err-value-clause-action
returns-in_err-value-clause-action c =
    let p = err_from_is_err_and c.from_residual.result c.from_residual.ensures.1 in
    rw (p.1, p.2) (does_stop {Y = Unit {0}} (λ v. v) (λ _. c.args.values.now) (read_value c.args.addr) (λ v. Give (c.args.values.now ++ v ∷ []))
    (moment_of c.args.machine.now) (moment_of c.read_cell.new.machine) _ c.in_err-value.ensures.action)

pub returns-clause-action : goal.returns-clause-action
returns-clause-action c =
    let m = moment_of c.read_cell.new.machine in
    does_bind {Y = Unit {0}} (λ _. c.add_value.new.list) (read_value c.args.addr) (λ v. Give (c.args.values.now ++ v ∷ [])) c.in_ok-value.value
    (moment_of c.args.machine.now) m m (Ok tt) c.in_ok-value.ensures.action
    (does_given {A = List Value} {X = Unit {0}} (λ _. c.add_value.new.list) (Give (c.args.values.now ++ c.in_ok-value.value ∷ [])) (Ok tt) m
    (ap Give (sym c.in_ok-add_value.ensures.added)))
