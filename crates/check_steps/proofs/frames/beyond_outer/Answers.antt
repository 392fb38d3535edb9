use Rattle.std.proofs.Common.{◌∙◌, sym}
use Rattle.check_steps.proofs.Chains.{leads-further}
use Rattle.check_steps.proofs.frames.beyond_outer.Goals as goal

pub returns-then-around-lt4294967295 : goal.returns-then-around-lt4294967295
returns-then-around-lt4294967295 c =
    leads-further c.args.kept.now c.args.outer c.args.region c.in-Some.around c.requires (sym c.kept_at.ensures ∙ c.in-Some.is) c.if-around-region.true
