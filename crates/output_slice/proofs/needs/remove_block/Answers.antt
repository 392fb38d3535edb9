use Rattle.std.proofs.Common.{if◌then◌else◌, ◌&&◌, ◌==◌, ◌∙◌, ◌≡◌, ap, arith, false, nat_le, nat_lt, sym}
use Rattle.output_slice.proofs.NeedsBefore.{block_more, block_none}
use Rattle.output_slice.proofs.needs.remove_block.Goals as goal
use Rattle.output_slice.specs.CellSets.{has_cell}

pub loop-addr-init : goal.loop-addr-init
loop-addr-init c a h = sym (block_none c.args.first a (has_cell c.args.cells.now a))

pub loop-addr-preserved : goal.loop-addr-preserved
loop-addr-preserved c a h = c.remove.ensures a h ∙ ap (λ b. if c.loop-addr.addr == a then false else b) (c.loop-addr.invariant a h)
    ∙ block_more c.args.first c.loop-addr.addr a (has_cell c.args.cells.now a) c.loop-addr.auto.addr

pub returns : goal.returns
returns c a h =
    let ends : c.loop-addr.addr ≡ c.args.end = let past = c.loop-addr-test.false in let most = c.loop-addr.auto.addr-end c.requires in omega arith in
    c.loop-addr.invariant a h ∙ ap (λ n. if nat_le c.args.first a && nat_lt a n then false else has_cell c.args.cells.now a) ends
