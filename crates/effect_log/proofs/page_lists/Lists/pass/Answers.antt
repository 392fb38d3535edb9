use Rattle.std.proofs.Common.{◌*◌}
use Rattle.effect_log.proofs.ListsGoOn.{skips}
use Rattle.effect_log.proofs.page_lists.Lists.pass.Goals as goal

pub returns-else-has : goal.returns-else-has
returns-else-has c = skips c.args.log.now c.args.pages.now (c.args.page * 32) c.args.self.now c.requires.so_far
    (λ place l. c.has.ensures place c.if-has.false l)
