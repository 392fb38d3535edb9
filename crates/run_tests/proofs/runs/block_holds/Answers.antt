use Rattle.std.proofs.Common.{◌∙◌, ◌≡◌, ℕ, None, ap, arith}
use Rattle.std.specs.{FinMap.get, FinMap.get-empty, Ordering.nat_cmp}
use Rattle.run_tests.proofs.runs.block_holds.Goals as goal

pub run_from-requires-clause-able : goal.run_from-requires-clause-able
run_from-requires-clause-able c =
    let none : (addr : ℕ) → get c.new.result addr ≡ None = λ addr. ap (λ cells. get cells addr) c.new.ensures ∙ get-empty nat_cmp addr in
    record {
      there = c.is_whole.ensures.whole.main;
      sound = record {
        stack = λ addr h. absurd (omega (arith, h));
        above_stack = λ addr h k. none addr;
        above_heap = λ addr h. none addr;
        stack_fits = omega arith;
        heap_begins = omega arith;
        heap_fits = omega arith;
        input = omega arith;
        calls = omega arith;
        depth = omega arith;
      };
      frame = let small = c.block_fits.ensures in omega (arith, small);
      calls = omega arith;
      depth = omega arith;
    }
