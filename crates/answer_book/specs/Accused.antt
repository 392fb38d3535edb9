-- The accused call.
use Rattle.std.specs.Prelude.{ℕ, Bool, List, Option, false, length, true}
use Rattle.call_tree.specs.declared.records.Mark.{Mark, TheVariants.Wrong}
use Rattle.answer_book.specs.{Marks.mark_of, Numbers.last_where, Numbers.numbers_below, declared.entries.What.What}

-- whether a call is said to be wrong
abbrev pub is_wrong : Mark → Bool
is_wrong Wrong = true
is_wrong _ = false

-- the accused is the greatest call that is marked wrong
unfoldable pub accused_of : List ℕ → List What → Option ℕ
accused_of routine answers =
    last_where (λ call. is_wrong (mark_of routine answers call)) (numbers_below (length routine))
