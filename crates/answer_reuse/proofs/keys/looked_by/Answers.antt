use Rattle.std.proofs.Common.{◌+◌, ◌<◌, ◌≡◌, Fits, arith, subst, w32}
use Rattle.cell_value.specs.Effects.{IsCountable}
use Rattle.answer_reuse.proofs.keys.looked_by.Goals as goal

pub overflow_add-at : goal.overflow_add-at
overflow_add-at c = let l : c.in-Look.at < 4294967295 = subst IsCountable c.in-Look.is c.requires.countable in omega (arith, l)
