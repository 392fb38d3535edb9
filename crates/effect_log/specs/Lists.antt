-- The lists of an effect, one address after another.
use Rattle.std.specs.Prelude.{◌≡◌, ℕ, List, Option}
use Rattle.std.specs.{List.filter_map, List.range_with_len, Option.option_map}
use Rattle.cell_value.specs.declared.entries.Touch.{Touch}
use Rattle.effect_log.specs.{Marks.changed_in, Marks.seen_in, Pages.cell_at}
use Rattle.effect_log.specs.declared.{cells.Pages.Pages, page_lists.Lists.Lists}

-- what a function gives at each address below this one where it gives something, by rising address
unfoldable pub listed_to : {X : Type 0} → (ℕ → Option X) → ℕ → List (ℕ × X)
listed_to f end = filter_map (λ addr. option_map (λ x. (addr, x)) (f addr)) (range_with_len 0 end)

-- the lists have all of the addresses below this one
pub record ListsReach (log : List Touch) (pages : Pages) (end : ℕ) (lists : Lists) : Type 0 where
  pub reads : lists.reads ≡ listed_to (λ addr. seen_in log addr (cell_at pages addr)) end
  pub changes : lists.changes ≡ listed_to (λ addr. changed_in log addr (cell_at pages addr)) end
