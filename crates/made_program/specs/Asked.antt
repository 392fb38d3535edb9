-- Whether something is asked.
use Rattle.std.specs.Prelude.{Bool, false, true}
use Rattle.optimal_query.specs.declared.state.SearchState.{SearchState, TheVariants.Ask}

abbrev pub asks : SearchState → Bool
asks (Ask call weight suspects left) = true
asks _ = false
