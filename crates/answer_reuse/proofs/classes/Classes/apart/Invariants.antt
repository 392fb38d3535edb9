use Rattle.std.{proofs.Common.◌≡◌, specs.Vec.vec_len}
use Rattle.answer_book.specs.Numbers.{numbers_below}
use Rattle.answer_reuse.proofs.classes.Classes.apart.Given as goal

abbrev pub invariant-calls : goal.invariant-calls
invariant-calls l = record {
  items : l.least.items ≡ numbers_below l.call;
  len : vec_len l.least ≡ l.call;
}
