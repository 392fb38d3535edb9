use Rattle.std.proofs.Common.{◌∙◌}
use Rattle.question_text.proofs.FramesOutward.{by_start}
use Rattle.question_text.proofs.opened.frame_of.Goals as goal

pub returns-in-Some : goal.returns-in-Some
returns-in-Some c =
    rw c.in-Some.is (c.frame_from.ensures ∙ by_start c.args.calls.now.calls c.start_of.result c.in-Some.number c.start_of.ensures)
