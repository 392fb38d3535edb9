use Rattle.std.proofs.Common.{◌+◌, ◌||◌, ◌∙◌, ◌≡◌, ◌≤◌, arith}
use Rattle.cell_names.specs.Names.{scene_in}
use Rattle.question_text.proofs.CellsInTurn.{after_passed, cell_counted, cells_end, counted_passed, line_written, lines_end, or_by_first, or_by_second}
use Rattle.question_text.proofs.states.write_between.Goals.{else-some, then-some}
use Rattle.question_text.proofs.states.write_between.Goals as goal

pub addresses-preserved : goal.addresses-preserved
addresses-preserved g c =
    let printout = g.P.Printer.printout in
    let s = scene_in c.args.scene.now in
    let passed = c.write_from-passed.result in
    let joined : c.if-some.some ≡ (c.addresses.some || passed.named) =
    elim c.if-some.branch [
      | then-some w ↦ or_by_first c.addresses.some passed.named c.if-some.some w.if-some.true w.some-is
      | else-some w ↦ or_by_second c.addresses.some passed.named c.if-some.some w.if-some.false w.some-is
    ] in
    let one = c.saturating_add.ensures in
    let all = c.saturating_add-address.ensures in
    let test = c.addresses-test.true in
    let range = c.ranges.to in
    let above : c.addresses.address + 1 ≤ c.saturating_add-address.result = omega (arith, one, all, test, range) in
    let below : c.saturating_add-address.result ≤ c.addresses.address + 1 + passed.more = omega (arith, one, all) in
    record {
      lines = (
        after_passed s c.args.call.now c.args.name.now c.addresses.address c.saturating_add-address.result c.args.to passed.more
            (printout c.write_from-passed.new.out).text _ above below c.write_from-passed.ensures.more
            (line_written s c.args.call.now c.args.name.now c.addresses.address c.args.to (printout c.addresses.out).text
            (printout c.write_from-passed.new.out).text _ test c.write_from-passed.ensures.line.0 c.addresses.invariant.lines.0),
        c.write_from-passed.ensures.line.1 ∙ c.addresses.invariant.lines.1,
      );
      cells = counted_passed s c.args.call.now c.args.name.now c.addresses.address c.saturating_add-address.result c.args.to passed.more c.if-some.some _ above
          below c.write_from-passed.ensures.more
          (cell_counted s c.args.call.now c.args.name.now c.addresses.address c.args.to c.addresses.some passed.named c.if-some.some _ test
          c.write_from-passed.ensures.named joined c.addresses.invariant.cells);
    }

pub returns-clause-lines : goal.returns-clause-lines
returns-clause-lines g c = (
  lines_end (scene_in c.args.scene.now) c.args.call.now c.args.name.now c.addresses.address c.args.to (g.P.Printer.printout c.addresses.out).text _
      c.addresses-test.false c.addresses.invariant.lines.0,
  c.addresses.invariant.lines.1,
)

pub returns-clause-some : goal.returns-clause-some
returns-clause-some g c =
    cells_end (scene_in c.args.scene.now) c.args.call.now c.args.name.now c.addresses.address c.args.to c.addresses.some _ c.addresses-test.false
    c.addresses.invariant.cells
