use Rattle.std.proofs.Common.{subst, sym}
use Rattle.answer_reuse.proofs.classes.Classes.of_calls.Goals as goal
use Rattle.answer_reuse.specs.Sorting.{AreKeys}

pub of_risen-requires : goal.of_risen-requires
of_risen-requires c = record { few = c.requires.few; keys = subst (AreKeys c.args.run.now) (sym c.deref.ensures.value) c.in_ok-keys.ensures }
