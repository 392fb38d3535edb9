use Rattle.std.proofs.Common.{◌-◌, ◌<◌, ◌≤◌, length}
use Rattle.cell_names.proofs.walks.first_local.Given as goal
use Rattle.cell_names.specs.Walks.{NoneFrom, is_of_local}

abbrev pub decreases-locals : goal.decreases-locals
decreases-locals l = length l.locals - l.at

abbrev pub invariant-locals : goal.invariant-locals
invariant-locals l = record {
  inside : l.from < l.at → l.at ≤ length l.locals;
  none : NoneFrom (λ part. is_of_local l.program l.left part) l.locals l.from l.at;
}
