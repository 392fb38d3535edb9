-- How the marks of a search are kept: with the weights of the calls, a flag for each that nothing is said of, and the
-- depths.
use Rattle.std.specs.Prelude.{◌≡◌, ℕ, List, None, Option, Some, length, map}
use Rattle.call_tree.specs.declared.records.Mark.{Mark, TheVariants.Unjudged}
use Rattle.subtree_weights.specs.Weighed.{Weighed, call_count}
use Rattle.optimal_query.specs.declared.{markings.Markings.TheInside.Inside, state.SearchState.SearchState}
use Rattle.optimal_query.specs.declared.state.SearchState.TheVariants.{Found, Narrowed, NothingWrong, Unclear}

-- the flag of a call with this mark
abbrev pub askable_flag : Mark → ℕ
askable_flag Unjudged = 1
askable_flag _ = 0

-- the marks are those that the weights are of, one for each call, the flags are theirs, and the depths are those of the
-- calls
pub record AreMarkings (weighed : Weighed) (marks : List Mark) (askable depths : List ℕ) : Type 0 where
  pub same : marks ≡ weighed.marks
  pub flagged : askable ≡ map askable_flag weighed.marks
  pub each : length weighed.marks ≡ call_count weighed
  pub deep : depths ≡ weighed.columns.depth

abbrev pub AreKeptMarkings : Inside → Type 0
AreKeptMarkings kept = AreMarkings kept.weights kept.marks.items kept.askable.items kept.depths.items

-- the verdict, by the accused and the first doubt
abbrev pub verdict_from : Option ℕ → Option ℕ → SearchState
verdict_from (Some accused) None = Found accused
verdict_from (Some accused) (Some doubt) = Narrowed accused
verdict_from None None = NothingWrong
verdict_from None (Some doubt) = Unclear
