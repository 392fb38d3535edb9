use Rattle.effect_log.proofs.BlocksAreMarked.{block_begins, block_goes_on}
use Rattle.effect_log.proofs.paged.change_block.Goals as goal

pub loop-addr-init : goal.loop-addr-init
loop-addr-init c = block_begins c.args.number c.args.first c.args.first c.args.base c.args.pages.now

pub loop-addr-preserved : goal.loop-addr-preserved
loop-addr-preserved c = block_goes_on c.args.number c.args.first c.loop-addr.addr c.args.base c.args.pages.now c.loop-addr.pages c.change_cell.new.pages
    c.loop-addr.auto.addr c.loop-addr.invariant c.in_ok-change_cell.ensures
