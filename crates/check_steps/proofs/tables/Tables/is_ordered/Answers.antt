use Rattle.std.proofs.Common.{subst}
use Rattle.check_steps.proofs.tables.Tables.is_ordered.Goals as goal
use Rattle.check_steps.specs.{Around.Falls, Known.Known}

pub returns : goal.returns
returns c = λ yes. subst (λ (k : Known). Falls k.frames) c.self.view_is (c.is_ordered.ensures yes)
