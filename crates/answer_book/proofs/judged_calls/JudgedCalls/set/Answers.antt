use Rattle.answer_book.proofs.FlagLemmas.{set_is_flagged}
use Rattle.answer_book.proofs.judged_calls.JudgedCalls.set.Goals as goal

pub invariant_of-self : goal.invariant_of-self
invariant_of-self c = rw c.flag.ensures (set_is_flagged c.self.inside.last.items c.self.inside.wrong.items c.args.call c.args.judgement c.self.invariant)
