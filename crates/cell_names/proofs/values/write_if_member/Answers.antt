use Rattle.std.proofs.Common.{◌++◌, ◌∙◌, ap, refl, sym}
use Rattle.cell_names.proofs.MembersInTurn.{member_written, next_is_none}
use Rattle.cell_names.proofs.values.write_if_member.Goals as goal
use Rattle.cell_names.specs.Values.{members_text}

pub returns-then-is_member : goal.returns-then-is_member
returns-then-is_member g c =
    let printout = g.P.Printer.printout in (
      member_written c.args.program.now c.args.base c.args.set c.args.first c.args.ordinal (printout c.args.out.now).text
          (printout c.write_member.new.out).text c.requires
          (sym c.is_member.ensures ∙ c.if-is_member.true) c.write_member.ensures.0,
      c.write_member.ensures.1,
    )

pub returns : goal.returns
returns g c = (
  ap (λ ms. (g.P.Printer.printout c.args.out.now).text ++ members_text c.args.program.now c.args.base c.args.first ms)
      (sym (next_is_none c.args.set c.args.ordinal c.requires (sym c.is_member.ensures ∙ c.if-is_member.false))),
  refl,
)
