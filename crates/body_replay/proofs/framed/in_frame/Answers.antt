use Rattle.std.proofs.Common.{ap, refl}
use Rattle.core_program.specs.Run.{without_frame}
use Rattle.eval_ops.specs.Machines.{Moment}
use Rattle.body_replay.proofs.{StepsAreCounted.counts_left, WorkEnds.ends_so}
use Rattle.body_replay.proofs.framed.in_frame.Goals as goal

pub returns-clause-ends : goal.returns-clause-ends
returns-clause-ends g c j a =
    ends_so (without_frame c.args.base c.args.cells) _ (c.in_ok-way.ensures.over j a) c.answer_of.ensures.way c.answer_of.ensures.answer
    (ap (λ (m : Moment). m.state) c.in_ok-remove_frame.ensures.removed) refl

pub returns-clause-counts : goal.returns-clause-counts
returns-clause-counts g c first k =
    counts_left (c.in_ok-way.ensures.counts first k) _ (ap (λ (m : Moment). m.state.steps) c.in_ok-remove_frame.ensures.removed)
