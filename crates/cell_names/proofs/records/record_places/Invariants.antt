use Rattle.std.proofs.Common.{◌++◌, ◌≡◌, ℕ, length}
use Rattle.cell_names.proofs.records.record_places.Given as goal
use Rattle.cell_names.specs.{Finding.list_at, Places.finds, Records.record_parts, Records.record_parts_from}

abbrev pub invariant-tokens : goal.invariant-tokens
invariant-tokens l = record {
  as_many : length l.lists.items ≡ l.tokens;
  so_far : (owner : ℕ) → finds (list_at l.lists.items owner ++ record_parts_from l.program l.tokens owner l.token)
      ≡ finds (record_parts l.program l.tokens owner);
}
