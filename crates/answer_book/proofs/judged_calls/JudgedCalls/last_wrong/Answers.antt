use Rattle.std.proofs.Common.{◌∙◌, refl}
use Rattle.answer_book.proofs.FlagLemmas.{last_flag, no_flag}
use Rattle.answer_book.proofs.judged_calls.JudgedCalls.last_wrong.Goals as goal
use Rattle.answer_book.specs.Judged.{AreFlagged}

pub returns-in-Some : goal.returns-in-Some
returns-in-Some c =
    let are : AreFlagged c.self.inside.last.items c.deref.result.now = record {
      few = c.self.invariant.few;
      flagged = c.deref.ensures.value
          ∙ c.self.invariant.flagged;
    } in
    rw (← c.self.view_is) (last_flag c.self.inside.last.items c.deref.result.now c.in-Some.place are c.in-Some.ensures.set c.in-Some.ensures.greatest)

pub returns-in-None : goal.returns-in-None
returns-in-None c =
    let are : AreFlagged c.self.inside.last.items c.deref.result.now = record {
      few = c.self.invariant.few;
      flagged = c.deref.ensures.value
          ∙ c.self.invariant.flagged;
    } in
    rw (← c.self.view_is) (no_flag c.self.inside.last.items c.deref.result.now are (c.in-None.ensures.none.0 refl))
