use Rattle.std.proofs.Common.{◌-◌, ◌<◌, ◌≤◌, length}
use Rattle.cell_names.proofs.walks.first_selected.Given as goal
use Rattle.cell_names.specs.Walks.{NoneFrom, is_selected}

abbrev pub decreases-fields : goal.decreases-fields
decreases-fields l = length l.fields - l.at

abbrev pub invariant-fields : goal.invariant-fields
invariant-fields l = record {
  inside : l.from < l.at → l.at ≤ length l.fields;
  none : NoneFrom (λ part. is_selected l.program part l.name) l.fields l.from l.at;
}
