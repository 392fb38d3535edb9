use Rattle.std.proofs.Common.{◌*◌}
use Rattle.effect_log.proofs.page_lists.lists_of.Given as goal
use Rattle.effect_log.specs.Lists.{ListsReach}

abbrev pub invariant-loop-page : goal.invariant-loop-page
invariant-loop-page l = ListsReach l.log l.pages (l.page * 32) l.lists
