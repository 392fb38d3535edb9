use Rattle.std.proofs.Common.{◌∙◌, sym}
use Rattle.dialog_replies.proofs.NamedCalls.{named_below}
use Rattle.made_program.proofs.lines.write_found.Goals as goal

pub write_named_call-requires : goal.write_named_call-requires
write_named_call-requires g c =
    named_below (g.D.Debugged.subject c.args.run.now) c.args.debug.now _ c.requires (sym c.in-Found.is ∙ c.state_now.ensures)
