use Rattle.std.proofs.Common.{◌++◌, ◌∙◌, ◌∷◌, [], IfOk, ap, subst}
use Rattle.cell_value.specs.declared.values.Value.TheVariants.{Nil}
use Rattle.eval_ops.specs.Machines.{moment_of}
use Rattle.program_run.proofs.runs.run_items.Goals as goal
use Rattle.program_run.specs.Tower.{IsOver, first_call}

pub returns : goal.returns
returns c = record {
  over = subst (λ first. IfOk c.run_call.result (λ r. IsOver c.args.program.now first (moment_of r.machine) r.calls))
      (λ i. first_call 0 ((c.in_ok-push.ensures.added ∙ ap (λ vs. vs ++ Nil ∷ []) c.new-link.ensures) i) (c.first_machine-machine.ensures.state i))
      c.run_call.ensures.over;
}
