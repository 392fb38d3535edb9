-- How a recording is kept: the calls, three of their columns, and the open calls from the outermost to the innermost.
use Rattle.std.specs.Prelude.{◌<◌, ◌≡◌, ◌≤◌, All, reverse, vec_len}
use Rattle.call_tree.specs.{Nesting.IsNested, declared.calls.Calls.TheInside.Inside}
use Rattle.call_tree.specs.Recording.{Recording, depths_of, lasts_of, parents_of, routines_of, starts_of}

abbrev pub recording_of : Inside → Recording
recording_of kept = record {
  calls = kept.calls.items;
  open_calls = reverse kept.open_calls.items;
  routines = kept.routines;
}

pub record IsKept (kept : Inside) : Type 0 where
  pub few : vec_len kept.calls ≤ 500000
  pub few_open : vec_len kept.open_calls ≤ vec_len kept.calls
  pub routine_column : kept.routine_column.items ≡ routines_of kept.calls.items
  pub last_column : kept.last_column.items ≡ lasts_of kept.calls.items
  pub start_column : kept.start_column.items ≡ starts_of kept.calls.items
  pub known : All (λ call. call.routine < kept.routines) kept.calls.items
  pub nested : IsNested (parents_of kept.calls.items) (lasts_of kept.calls.items) (depths_of kept.calls.items)
      (reverse kept.open_calls.items)
