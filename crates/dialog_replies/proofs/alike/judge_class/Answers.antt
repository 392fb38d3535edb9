use Rattle.answer_reuse.specs.{Classes.class_of, Shared.judged_each}
use Rattle.dialog_replies.proofs.AlikeInTurn.{judged_entries, judged_over, still_of}
use Rattle.dialog_replies.proofs.alike.judge_class.Goals as goal

pub returns-clause-entries : goal.returns-clause-entries
returns-clause-entries c =
    judged_entries c.args.debug.now c.judge_alike.new.debug (judged_each c.args.judgement (class_of c.args.classes.now c.args.call))
    c.judge_alike.result c.judge_alike.ensures.judged c.judge_alike.ensures.unchanged

pub returns-clause-search : goal.returns-clause-search
returns-clause-search c = λ s of.
    still_of (judged_over c.args.debug.now c.judge_alike.new.debug (judged_each c.args.judgement (class_of c.args.classes.now c.args.call))
    c.judge_alike.result c.judge_alike.ensures.judged c.judge_alike.ensures.unchanged) of
