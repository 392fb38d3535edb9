use Rattle.std.proofs.Common.{◌∙◌, sym}
use Rattle.check_steps.proofs.Chains.{leads-absent, leads-kept}
use Rattle.check_steps.proofs.frames.beyond_kept.Goals as goal

pub returns-in-Some : goal.returns-in-Some
returns-in-Some c = leads-kept c.args.kept.now c.args.number c.in-Some.kept c.requires (sym c.kept_at.ensures ∙ c.in-Some.is)

pub returns-in-None : goal.returns-in-None
returns-in-None c = leads-absent c.args.kept.now c.args.number (sym c.kept_at.ensures ∙ c.in-None.is)
