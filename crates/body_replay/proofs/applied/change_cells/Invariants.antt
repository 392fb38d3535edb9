use Rattle.std.proofs.Common.{◌+◌, ◌≡◌, drop}
use Rattle.core_program.specs.Apply.{changed_cells}
use Rattle.body_replay.proofs.applied.change_cells.Given as goal

abbrev pub invariant-changes : goal.invariant-changes
invariant-changes g l =
    (changed_cells l.changes l.fn.store ≡ changed_cells (drop l.i l.changes) l.store)
    × (l.steps ≡ l.fn.steps + l.i)
