use Rattle.std.proofs.Common.{[], arith, refl}
use Rattle.core_program.specs.Statements as meaning
use Rattle.eval_ops.specs.Machines.{moment_of}
use Rattle.evaluator.proofs.StepsFall.{falls_so}
use Rattle.evaluator.proofs.Turning.{not_spent, spent, spent_less, turns_after, turns_failed}
use Rattle.evaluator.proofs.statements.step.Goals as goal
use Rattle.evaluator.specs.Rest.{from}

pub returns-in-Ok-clause-turns : goal.returns-in-Ok-clause-turns
returns-in-Ok-clause-turns c p =
    turns_after p _ _ (moment_of c.args.machine.now) (moment_of c.spend.new.machine) _ c.go.result c.go.new.self
    (spent p (record { line = c.args.line; base = 0; records = [] }) meaning.nothing (λ _. from p c.args.body.now c.args.now) _ _ c.in-Ok.ensures.act)
    (c.go.ensures.turns p (moment_of c.spend.new.machine) _ refl)

pub returns-in-Ok-clause-falls : goal.returns-in-Ok-clause-falls
returns-in-Ok-clause-falls c =
    let e = spent_less (moment_of c.args.machine.now) (moment_of c.spend.new.machine) c.in-Ok.ensures.act in
    falls_so c.go.result _ _ _ _ (λ h. omega (arith, h, e)) c.go.ensures.falls

pub returns-in-Err-clause-turns : goal.returns-in-Err-clause-turns
returns-in-Err-clause-turns c p =
    turns_failed p _ (moment_of c.args.machine.now) (moment_of c.spend.new.machine) c.args.line c.in-Err.halt c.fail.new.self c.fail.result
    c.fail.ensures.line c.fail.ensures.fails
    (not_spent p (record { line = c.args.line; base = 0; records = [] }) meaning.nothing (λ _. from p c.args.body.now c.args.now) c.in-Err.halt _ _
    c.in-Err.ensures.act)
