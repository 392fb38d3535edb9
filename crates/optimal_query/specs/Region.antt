-- The region that is searched, and the suspects and the doubts in it. As in Shapiro's search (1983) it goes on below a
-- call that was judged wrong, and leaves out what was judged right with all below it. That the greatest such call is
-- accused, whatever is said of the calls above it, and that trust leaves out as `right` does, is this project's own
-- rule.
use Rattle.std.specs.Prelude.{ℕ, Bool, List, None, Option, Some, filter, find, length, nat_lt, true}
use Rattle.call_tree.specs.{Clear.is_unjudged, Clear.is_unknown, declared.records.Mark.Mark}
use Rattle.subtree_weights.specs.Searched.{is_searched, mark_at}
use Rattle.answer_book.specs.Numbers.{numbers_below}

-- the calls of the region, rising
abbrev pub region_of : List ℕ → List Mark → Option ℕ → List ℕ
region_of last marks accused = filter (is_searched last marks accused) (numbers_below (length last))

-- the unjudged calls of the region
unfoldable pub suspects_of : List ℕ → List Mark → Option ℕ → List ℕ
suspects_of last marks accused = filter (λ call. is_unjudged (mark_at marks call)) (region_of last marks accused)

-- its unknown calls
unfoldable pub doubts_of : List ℕ → List Mark → Option ℕ → List ℕ
doubts_of last marks accused = filter (λ call. is_unknown (mark_at marks call)) (region_of last marks accused)

abbrev pub is_after : Option ℕ → ℕ → Bool
is_after None call = true
is_after (Some before) call = nat_lt before call

-- the least of these calls, or the least one after the call that is given
abbrev pub next_after : List ℕ → Option ℕ → Option ℕ
next_after calls before = find (is_after before) calls
