use Rattle.std.proofs.Common.{if◌then◌else◌, ◌&&◌, ◌+◌, ◌==◌, ◌∙◌, ap, false, nat_le, nat_lt, sym}
use Rattle.cell_value.specs.declared.{entries.Change.TheVariants.Gone, entries.Change.TheVariants.Set, values.Value.TheVariants.Undefined}
use Rattle.output_slice.proofs.NeedsBefore.{some_if}
use Rattle.output_slice.proofs.needs.Needs.pass.Goals as goal
use Rattle.output_slice.specs.CellSets.{has_cell}

pub returns-in-Write-clause-cells : goal.returns-in-Write-clause-cells
returns-in-Write-clause-cells c a h = rw c.in-Write.is (c.remove.ensures a h
    ∙ ap (λ b. if b then false else has_cell c.args.self.now.cells a) (sym (some_if (c.in-Write.addr == a) (Set _))))

pub returns-in-Make-clause-cells : goal.returns-in-Make-clause-cells
returns-in-Make-clause-cells c a h = rw c.in-Make.is (c.remove_block.ensures a h
    ∙ ap (λ b. if b then false else has_cell c.args.self.now.cells a)
    (sym (some_if (nat_le c.in-Make.first a && nat_lt a (c.in-Make.first + c.in-Make.cells)) (Set Undefined))))

pub returns-in-Drop-clause-cells : goal.returns-in-Drop-clause-cells
returns-in-Drop-clause-cells c a h = rw c.in-Drop.is (c.remove_block-in-Drop.ensures a h
    ∙ ap (λ b. if b then false else has_cell c.args.self.now.cells a)
    (sym (some_if (nat_le c.in-Drop.first a && nat_lt a (c.in-Drop.first + c.in-Drop.cells)) Gone)))
