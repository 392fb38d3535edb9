use Rattle.weight_lanes.proofs.LanesOfOperations.{HasLanes-chunk}
use Rattle.weight_lanes.proofs.lanes.weights_from.Goals as goal

pub returns : goal.returns
returns c = HasLanes-chunk c.args.at c.args.weights.now c.requires
