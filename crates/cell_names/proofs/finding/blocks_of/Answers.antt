use Rattle.cell_names.proofs.NamesMade.{blocks_on}
use Rattle.cell_names.proofs.finding.blocks_of.Goals as goal

pub touches-preserved : goal.touches-preserved
touches-preserved c =
    blocks_on c.touches.blocks c.push_block.new.blocks _ c.args.log.now c.touches.place c.at.result c.at.ensures.found c.in_ok-push_block.ensures
    c.touches.invariant
