use Rattle.std.proofs.Common.{arith, true}
use Rattle.output_slice.proofs.StampsTell.{not_there, stamped_in, still_stamped}
use Rattle.output_slice.proofs.cell_set.CellSet.insert.Goals as goal
use Rattle.output_slice.specs.CellSets.{has_cell}

pub index_mut-requires : goal.index_mut-requires
index_mut-requires c = let set = c.args.self.now in omega (arith, set.stamps.ok.0, set.stamped.each, c.if-addr-lt-HEAP_END.true)

pub invariant_of-self : goal.invariant_of-self
invariant_of-self c =
    let set = c.args.self.now in
    record {
      stamped = still_stamped set.stamps.items set.stamp c.args.addr set.stamp (omega (arith, set.stamped.each, c.if-addr-lt-HEAP_END.true)) (omega arith)
          set.stamped;
    }

pub returns-then-addr-lt-HEAP_END : goal.returns-then-addr-lt-HEAP_END
returns-then-addr-lt-HEAP_END c a h = let set = c.args.self.now in stamped_in set.stamps.items set.stamp c.args.addr a
    (omega (arith, set.stamped.each, c.if-addr-lt-HEAP_END.true))

pub returns-else-addr-lt-HEAP_END : goal.returns-else-addr-lt-HEAP_END
returns-else-addr-lt-HEAP_END c a h = not_there c.args.addr a 1048576 true (has_cell c.args.self.now a) c.if-addr-lt-HEAP_END.false h
