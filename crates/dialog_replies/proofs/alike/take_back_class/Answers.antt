use Rattle.answer_reuse.specs.Shared.{standing_alike}
use Rattle.dialog_replies.proofs.AlikeInTurn.{still_of, taken_entries, taken_over}
use Rattle.dialog_replies.proofs.alike.take_back_class.Goals as goal

pub returns-clause-entries : goal.returns-clause-entries
returns-clause-entries c =
    taken_entries c.args.debug.now c.take_back_alike.new.debug (standing_alike c.args.debug.now.book.entries c.args.classes.now c.args.call)
    c.take_back_alike.result c.take_back_alike.ensures.taken_back c.take_back_alike.ensures.unchanged

pub returns-clause-search : goal.returns-clause-search
returns-clause-search c = λ s of.
    still_of (taken_over c.args.debug.now c.take_back_alike.new.debug (standing_alike c.args.debug.now.book.entries c.args.classes.now c.args.call)
    c.take_back_alike.result c.take_back_alike.ensures.taken_back c.take_back_alike.ensures.unchanged) of
