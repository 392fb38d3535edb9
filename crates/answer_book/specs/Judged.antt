-- The last judgements on the calls, kept beside flags of those that are wrong.
use Rattle.std.specs.Prelude.{◌≡◌, ◌≤◌, ℕ, Bool, List, None, Option, Some, false, length, map, slice_get, true}
use Rattle.answer_book.specs.Numbers.{last_where, numbers_below}
use Rattle.answer_book.specs.declared.entries.Judgement.{Judgement, TheVariants.Wrong}

abbrev pub is_wrong_judgement : Option Judgement → Bool
is_wrong_judgement (Some Wrong) = true
is_wrong_judgement _ = false

-- the flag of a call
abbrev pub wrong_flag : Option Judgement → ℕ
wrong_flag (Some Wrong) = 1
wrong_flag _ = 0

abbrev pub is_wrong_at : Option (Option Judgement) → Bool
is_wrong_at (Some judgement) = is_wrong_judgement judgement
is_wrong_at None = false

-- the greatest call of which the judgement is wrong
abbrev pub last_wrong : List (Option Judgement) → Option ℕ
last_wrong judged = last_where (λ call. is_wrong_at (slice_get judged call)) (numbers_below (length judged))

-- the flags say which of the judgements are wrong
pub record AreFlagged (judged : List (Option Judgement)) (wrong : List ℕ) : Type 0 where
  pub few : length judged ≤ 500000
  pub flagged : wrong ≡ map wrong_flag judged
