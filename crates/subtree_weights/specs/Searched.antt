-- Which calls are searched below a call. As in Shapiro's search (1983), what was judged right is left out with all
-- below it; that trust leaves out as `right` does is this project's own rule.
use Rattle.std.specs.Prelude.{◌&&◌, ℕ, Bool, List, None, Option, Some, length, nat_le, nat_lt, not, slice_index}
use Rattle.std.specs.{Prelude.slice_index_or, Prelude.true, List.list_any, List.range_with_len}
use Rattle.call_tree.specs.Clear.{is_clear, is_unjudged}
use Rattle.call_tree.specs.declared.records.Mark.{Mark, TheVariants.Unjudged}

-- the mark of a call in a column of marks; a call that has none there is unjudged
abbrev pub mark_at : List Mark → ℕ → Mark
mark_at marks call = slice_index_or marks call Unjudged

-- whether a call stands in the subtree of the call `top`, which is the interval from it to its last call
abbrev pub is_in : List ℕ → ℕ → ℕ → Bool
is_in last top call = nat_le top call && nat_le call (slice_index last top)

-- whether a call stands in the proper subtree of the call `top`; with no such call each does
abbrev pub is_below : List ℕ → Option ℕ → ℕ → Bool
is_below last None call = true
is_below last (Some top) call = is_in last top call && nat_lt top call

-- whether the call `above` is clear, stands below `top`, and has the call in its subtree
abbrev pub covers : List ℕ → List Mark → Option ℕ → ℕ → ℕ → Bool
covers last marks top call above =
    is_clear (mark_at marks above) && is_below last top above && is_in last above call

-- whether a call is clear, or has a clear call above it below `top`
abbrev pub is_cleared : List ℕ → List Mark → Option ℕ → ℕ → Bool
is_cleared last marks top call = list_any (covers last marks top call) (range_with_len 0 (length last))

-- whether a call is searched: below `top`, and not cleared there
abbrev pub is_searched : List ℕ → List Mark → Option ℕ → ℕ → Bool
is_searched last marks top call = is_below last top call && not (is_cleared last marks top call)

-- whether a call is a suspect below `top`: it is searched, and nothing is said of it
abbrev pub is_suspect : List ℕ → List Mark → Option ℕ → ℕ → Bool
is_suspect last marks top call = is_searched last marks top call && is_unjudged (mark_at marks call)
