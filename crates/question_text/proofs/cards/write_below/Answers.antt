use Rattle.cell_names.specs.{Finding.finding_in, Places.finds}
use Rattle.question_text.proofs.CardsWhole.{lines_are}
use Rattle.question_text.proofs.cards.write_below.Goals as goal
use Rattle.question_text.specs.Cards.{recorded_in}

pub returns : goal.returns
returns g c =
    let printout = g.P.Printer.printout in (
      lines_are (recorded_in c.args.from.now) c.args.number c.args.call.now (finding_in c.args.from.now.names.now) c.routine_column.result.now
          (finds c.args.parts.now.opened) (printout c.args.out.now).text (printout c.write_lines.new.out).text c.requires.names c.routine_column.ensures
          c.requires.opened c.write_lines.ensures.0,
      c.write_lines.ensures.1,
    )
