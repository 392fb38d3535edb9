use Rattle.cell_names.specs.{Finding.finding_in, Places.finds}
use Rattle.question_text.proofs.StatesWhole.{name_is}
use Rattle.question_text.proofs.names.write_name.Goals as goal
use Rattle.question_text.specs.Cards.{recorded_in}

pub returns : goal.returns
returns g c =
    let printout = g.P.Printer.printout in (
      name_is (recorded_in c.args.from.now) c.args.number (finding_in c.args.from.now.names.now) c.routine_column.result.now (finds c.args.opened.now)
          c.args.address c.root_at.result (printout c.args.out.now).text (printout c.write_root_name.new.out).text
          (record { found = c.requires.names; column = c.routine_column.ensures; frames = c.requires.opened }) c.root_at.ensures
          c.write_root_name.ensures.0,
      c.write_root_name.ensures.1,
    )
