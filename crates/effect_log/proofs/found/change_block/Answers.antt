use Rattle.std.proofs.Common.{◌∙◌, sym}
use Rattle.effect_log.proofs.BlocksChange.{block_begins, block_goes_on, block_passes_by}
use Rattle.effect_log.proofs.found.change_block.Goals.{else-is_shared_cell, then-is_shared_cell+in_ok-put}
use Rattle.effect_log.proofs.found.change_block.Goals as goal

pub loop-addr-init : goal.loop-addr-init
loop-addr-init c = block_begins c.args.base c.args.first c.args.first c.args.change c.args.changes.now

pub loop-addr-preserved : goal.loop-addr-preserved
loop-addr-preserved c = elim c.if-is_shared_cell.branch [
  | then-is_shared_cell+in_ok-put w ↦ rw w.changes-is (block_goes_on c.args.base c.args.first c.loop-addr.addr c.args.change c.args.changes.now
      c.loop-addr.changes w.put.new.map c.loop-addr.auto.addr (sym c.is_shared_cell.ensures ∙ w.if-is_shared_cell.true) c.loop-addr.invariant
      w.in_ok-put.ensures.set)
  | else-is_shared_cell w ↦ rw w.changes-is (block_passes_by c.args.base c.args.first c.loop-addr.addr c.args.change c.args.changes.now c.loop-addr.changes
      (sym c.is_shared_cell.ensures ∙ w.if-is_shared_cell.false) c.loop-addr.invariant)
]
