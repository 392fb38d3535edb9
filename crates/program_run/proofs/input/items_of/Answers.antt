use Rattle.std.proofs.Common.{arith}
use Rattle.program_run.proofs.ItemsOfInput.{items_more}
use Rattle.program_run.proofs.input.items_of.Goals as goal

pub bytes-preserved : goal.bytes-preserved
bytes-preserved c = record {
  few = let a = c.in_ok-put_items.ensures.few in let b = c.bytes.invariant.few in omega (arith, a, b);
  put = items_more c.args.input.now c.bytes.items c.put_items.new.items c.bytes.at c.byte_at.result c.bytes-test.true c.in_ok-put_items.ensures.put
      c.byte_at.ensures c.bytes.invariant.put;
}
