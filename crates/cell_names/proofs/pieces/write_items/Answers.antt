use Rattle.std.proofs.Common.{◌++◌, ◌∙◌, ap}
use Rattle.cell_names.proofs.WrittenInTurn.{range_written_next}
use Rattle.cell_names.proofs.pieces.write_items.Goals as goal
use Rattle.cell_names.specs.Pieces.{escaped}

pub items-preserved : goal.items-preserved
items-preserved g c =
    let printout = g.P.Printer.printout in (
      range_written_next escaped c.args.items.now c.items.place c.args.to c.at.result (printout c.items.out).text
          (printout c.write_escaped.new.out).text _ c.at.ensures.found
          c.items-test.true (c.write_escaped.ensures.0 ∙ ap (λ item. (printout c.items.out).text ++ escaped item) c.from.ensures) c.items.invariant.0,
      c.write_escaped.ensures.1 ∙ c.items.invariant.1,
    )
