use Rattle.std.proofs.{Common.arith, lemmas.Bool.Decides.nat_tests}
use Rattle.program_run.proofs.CallsEnd.{halted, no_calls}
use Rattle.program_run.proofs.runner.Runner.halt.Goals as goal

pub returns-clause-over : goal.returns-clause-over
returns-clause-over c p first t = halted c.calls.self c.args.way (c.calls.invariant.0 p first t) (no_calls c.calls.self.opens.items
    (let a = c.calls-test.ensures in let o = c.calls.self.opens.ok in grind (arith, nat_tests, a, o)))
