use Rattle.std.proofs.{Common.arith, lemmas.Grind.common_steps}
use Rattle.check_steps.proofs.Recalls.{recalled_none}
use Rattle.check_steps.proofs.tables.Tables.new.Goals as goal

pub invariant_of-result : goal.invariant_of-result
invariant_of-result c = (
  grind (arith, common_steps, c.new-4.ensures),
  grind (arith, common_steps, c.new-5.ensures),
  grind (arith, common_steps, c.in_ok-words.ensures, c.len-count.ensures, c.if-count.false),
  grind (arith, common_steps, c.len.ensures, c.if-len.false),
  recalled_none _ _ _ c.new-6.ensures,
)
