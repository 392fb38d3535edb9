use Rattle.std.proofs.Common.{◌*◌, ◌+◌}
use Rattle.effect_log.proofs.page_lists.Lists.add_page.Given as goal
use Rattle.effect_log.specs.Lists.{ListsReach}

abbrev pub invariant-loop-place : goal.invariant-loop-place
invariant-loop-place l = ListsReach l.log l.pages (l.page * 32 + l.place) l.self
