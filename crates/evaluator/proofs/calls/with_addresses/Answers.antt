use Rattle.std.proofs.Common.{◌+◌, ◌∙◌, arith, drop, length, map, refl, sym}
use Rattle.std.proofs.lemmas.Option.{slice_get_read}
use Rattle.core_program.specs.Passed.{placed}
use Rattle.evaluator.proofs.Arguments.{cells_next, placed_next}
use Rattle.evaluator.proofs.calls.with_addresses.Goals as goal
use Rattle.evaluator.specs.Rest.{copy_of}

pub overflow_add-addr : goal.overflow_add-addr
overflow_add-addr c =
    let e = slice_get_read c.args.copies.now (length c.args.copies.now) c.copies.copy-index c.copy-item.result refl c.copies-test.true c.copy-item.is in
    let n = cells_next c.args.copies.now c.copies.copy-index c.copy-item.result e in
    let k = c.len-addr.ensures in
    let f = c.copies.invariant.fits in
    omega (arith, n, k, f)

pub copies-preserved : goal.copies-preserved
copies-preserved c =
    let e = slice_get_read c.args.copies.now (length c.args.copies.now) c.copies.copy-index c.copy-item.result refl c.copies-test.true c.copy-item.is in
    let n = cells_next c.args.copies.now c.copies.copy-index c.copy-item.result e in
    let k = c.len-addr.ensures in
    let f = c.copies.invariant.fits in
    record {
      so_far = (λ i. placed (c.copies.addr + k i) (map copy_of (drop (c.copies.copy-index + 1) c.args.copies.now)) (c.put_at.ensures i))
          ∙ sym (placed_next c.args.copies.now c.copies.copy-index c.copy-item.result c.copies.addr c.copies.held.items e) ∙ c.copies.invariant.so_far;
      fits = omega (arith, n, k, f);
    }
