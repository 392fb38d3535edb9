use Rattle.std.proofs.Common.{◌==◌, ◌≡◌, filter, length, slice_index}
use Rattle.answer_book.specs.Numbers.{numbers_below}
use Rattle.answer_reuse.proofs.classes.Classes.size.Given as goal

abbrev pub invariant-calls : goal.invariant-calls
invariant-calls l = l.size ≡ length (filter (λ other. slice_index l.self other == l.least) (numbers_below l.other))
