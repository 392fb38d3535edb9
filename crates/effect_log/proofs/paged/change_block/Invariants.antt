use Rattle.effect_log.proofs.paged.change_block.Given as goal
use Rattle.effect_log.specs.Marks.{MarksCells, block_mark}

abbrev pub invariant-loop-addr : goal.invariant-loop-addr
invariant-loop-addr l = MarksCells l.base (block_mark l.number l.first l.addr) l.initial.pages l.pages
