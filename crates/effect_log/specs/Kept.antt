-- How a log is kept: an entry for each touch, and aside the touches with sets.
use Rattle.std.specs.Prelude.{◌≤◌, All, List, length, map, vec_len}
use Rattle.cell_value.specs.declared.entries.Touch.{Touch}
use Rattle.effect_log.specs.{Entries.IsWithin, Entries.touch_of, declared.log.Log.TheInside.Inside}

abbrev pub touches_of : Inside → List Touch
touches_of kept = map (touch_of kept.aside.items) kept.entries.items

pub record IsKept (kept : Inside) : Type 0 where
  pub few : vec_len kept.entries ≤ 8000000
  pub few_aside : vec_len kept.aside ≤ vec_len kept.entries
  pub within : All (IsWithin (length kept.aside.items)) kept.entries.items
