use Rattle.std.proofs.{Common.rules, Common.subst, lemmas.Int.to_z-of_z}
use mir.Syntax.{w64}
use mir.Val.{SFits}
use Rattle.cell_value.specs.declared.values.Value.TheVariants.{Number}
use Rattle.core_program.specs.{Actions.performs, Output.integer_text, Output.written}
use Rattle.eval_ops.proofs.output.write_integer.Goals as goal
use Rattle.eval_ops.specs.Machines.{DoesAll, machine_state, moment_of}

pub returns-in-Number-clause-action : goal.returns-in-Number-clause-action
returns-in-Number-clause-action c = let f : SFits w64 c.in-Number.number = search rules in
    rw c.in-Number.is (subst (λ n. DoesAll {X = Unit {0}} (λ _. tt)
    (performs (written (integer_text (Number n)) c.args.width) (machine_state c.args.machine.now))
    c.write_number.result (moment_of c.args.machine.now) (moment_of c.write_number.new.machine)) (to_z-of_z w64 c.in-Number.number f)
    c.write_number.ensures.action)
