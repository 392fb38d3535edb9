use Rattle.std.proofs.Common.{◌++◌, ◌==◌, ◌≡◌, filter, slice_index}
use Rattle.std.specs.List.{flat_map}
use Rattle.answer_book.specs.Numbers.{numbers_below}
use Rattle.dialog_replies.proofs.alike.append_class.Given as goal
use Rattle.dialog_replies.specs.Replies.{numbered}

abbrev pub invariant-calls : goal.invariant-calls
invariant-calls l =
    l.text ≡ l.fn.text ++ flat_map numbered (filter (λ other. slice_index l.classes other == l.least) (numbers_below l.other))
