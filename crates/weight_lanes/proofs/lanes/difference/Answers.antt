use Rattle.std.proofs.Common.{◌%◌, ◌+◌, ◌-◌}
use Rattle.weight_lanes.proofs.LanesOfOperations.{HasLanes-zip2}
use Rattle.weight_lanes.proofs.lanes.difference.Goals as goal

pub returns : goal.returns
returns c = HasLanes-zip2 (λ x y. (x + (4294967296 - y)) % 4294967296) c.args.a c.args.b c.fits-a.0 c.fits-b.0
