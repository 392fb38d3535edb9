use Rattle.std.proofs.{Common.◌==◌, Common.ap, Common.arith, lemmas.List.get_or_read}
use Rattle.output_slice.proofs.StampsTell.{past_end}
use Rattle.output_slice.proofs.cell_set.CellSet.has.Goals as goal

pub index-requires : goal.index-requires
index-requires c = let set = c.args.self.now in omega (arith, set.stamps.ok.0, set.stamped.each, c.if-addr-lt-HEAP_END.true)

pub returns-then-addr-lt-HEAP_END : goal.returns-then-addr-lt-HEAP_END
returns-then-addr-lt-HEAP_END c =
    let set = c.args.self.now in
    ap (λ x. x == set.stamp) (get_or_read set.stamps.items _ _ (omega (arith, set.stamped.each, c.if-addr-lt-HEAP_END.true)) c.index.ensures 0)

pub returns-else-addr-lt-HEAP_END : goal.returns-else-addr-lt-HEAP_END
returns-else-addr-lt-HEAP_END c = let set = c.args.self.now in past_end set.stamps.items set.stamp c.args.addr set.stamped c.if-addr-lt-HEAP_END.false
