use Rattle.std.proofs.Common.{◌≡◌, arith, false, true}
use Rattle.answer_reuse.proofs.KeysInOrder.{same_digest}
use Rattle.answer_reuse.proofs.classes.are_tied.Goals as goal

pub returns-else-one-other : goal.returns-else-one-other
returns-else-one-other c = (
  λ t. absurd (let z : false ≡ true = t in cc),
  λ e.
      let same = same_digest c.args.run.now c.args.one.now c.args.other.now c.requires.one c.requires.other e in
      let apart = c.if-one-other.false in
      absurd (omega (arith, same, apart)),
)
