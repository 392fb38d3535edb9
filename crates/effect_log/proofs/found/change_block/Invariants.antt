use Rattle.cell_value.specs.Effects.{changed_block}
use Rattle.effect_log.proofs.found.change_block.Given as goal
use Rattle.effect_log.specs.Passing.{ChangesBy}

abbrev pub invariant-loop-addr : goal.invariant-loop-addr
invariant-loop-addr l = ChangesBy l.base (changed_block l.first l.addr l.change) l.initial.changes l.changes
