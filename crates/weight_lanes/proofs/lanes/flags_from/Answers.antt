use Rattle.std.specs.Simd.Lanes.{chunk}
use Rattle.weight_lanes.proofs.LanesOfOperations.{HasLanes-chunk, HasLanes-same}
use Rattle.weight_lanes.proofs.lanes.flags_from.Goals as goal

pub returns : goal.returns
returns c = HasLanes-same _ (chunk c.args.at 16 c.args.flags.now) (HasLanes-chunk c.args.at c.args.flags.now c.requires)
