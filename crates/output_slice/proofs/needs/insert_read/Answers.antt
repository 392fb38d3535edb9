use Rattle.std.proofs.Common.{if◌then◌else◌, ◌==◌, ◌∙◌, ap, arith, true}
use Rattle.output_slice.proofs.NeedsBefore.{key_taken, take_whole}
use Rattle.output_slice.proofs.needs.insert_read.Goals as goal
use Rattle.output_slice.specs.{CellSets.has_cell, Keys.has_key}

pub loop-i-preserved : goal.loop-i-preserved
loop-i-preserved c a h = c.insert.ensures a h ∙ ap (λ b. if c.at.result.0 == a then true else b) (c.loop-i.invariant a h)
    ∙ key_taken c.args.reads.now c.loop-i.i c.at.result a true (has_cell c.args.cells.now a) c.at.ensures.found

pub returns : goal.returns
returns c a h = c.loop-i.invariant a h ∙ ap (λ l. if has_key a l then true else has_cell c.args.cells.now a)
    (take_whole c.args.reads.now c.loop-i.i (omega (arith, c.loop-i-test.false, c.len-i-end.ensures)))
