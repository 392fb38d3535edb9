use Rattle.std.proofs.{Common.arith, lemmas.Option.slice_get_within}
use Rattle.eval_ops.proofs.input.take.Goals as goal

pub overflow_add-next : goal.overflow_add-next
overflow_add-next c = omega (
  arith,
  slice_get_within c.args.machine.now.items c.args.machine.now.place c.args.item c.requires.there,
  c.len-items.ensures,
  c.len-items.type_inv,
)
