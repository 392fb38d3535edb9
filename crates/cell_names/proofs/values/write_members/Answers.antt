use Rattle.cell_names.proofs.MembersInTurn.{all_written}
use Rattle.cell_names.proofs.values.write_members.Goals as goal

pub returns : goal.returns
returns g c = (
  all_written c.args.program.now c.args.base c.args.set c.members.first c.members.ordinal (g.P.Printer.printout c.members.out).text _
      c.members-test.false c.members.invariant.0,
  c.members.invariant.1,
)
