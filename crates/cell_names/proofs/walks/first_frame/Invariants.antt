use Rattle.std.proofs.Common.{◌-◌, ◌<◌, ◌≤◌, length}
use Rattle.cell_names.proofs.walks.first_frame.Given as goal
use Rattle.cell_names.specs.{Names.scene_in, Walks.NoneFrom, Walks.is_of_frame}

abbrev pub decreases-frames : goal.decreases-frames
decreases-frames l = length l.frames - l.at

abbrev pub invariant-frames : goal.invariant-frames
invariant-frames l = record {
  inside : l.from < l.at → l.at ≤ length l.frames;
  none : NoneFrom (λ part. is_of_frame (scene_in l.scene) part l.name) l.frames l.from l.at;
}
