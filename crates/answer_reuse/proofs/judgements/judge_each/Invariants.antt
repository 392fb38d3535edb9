use Rattle.std.proofs.Common.{◌==◌, slice_index}
use Rattle.answer_reuse.proofs.OneByOne.{Judging}
use Rattle.answer_reuse.proofs.judgements.judge_each.Given as goal

abbrev pub invariant-calls : goal.invariant-calls
invariant-calls g l =
    Judging l.initial.debug (λ other. slice_index l.classes other == l.least) l.judgement l.initial.steps l.steps l.call l.debug
