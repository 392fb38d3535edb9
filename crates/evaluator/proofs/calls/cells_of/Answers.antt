use Rattle.std.proofs.Common.{◌≡◌, ap, arith, drop, length, map, refl}
use Rattle.std.proofs.lemmas.{List.drop_all, Option.slice_get_read}
use Rattle.core_program.specs.Passed.{copied}
use Rattle.evaluator.proofs.Arguments.{cells_next}
use Rattle.evaluator.proofs.calls.cells_of.Goals as goal
use Rattle.evaluator.specs.Rest.{copy_of}

pub copies-preserved : goal.copies-preserved
copies-preserved c =
    let e = slice_get_read c.args.copies.now (length c.args.copies.now) c.copies.copy-index c.copy-item.result refl c.copies-test.true c.copy-item.is in
    let n = cells_next c.args.copies.now c.copies.copy-index c.copy-item.result e in
    let k = c.len.ensures in
    let s = c.saturating_add-cells.ensures in
    let h = c.copies.invariant.so_far in
    record { so_far = omega (arith, n, k, s, h); bound = omega (arith, s) }

pub returns : goal.returns
returns c =
    let none : length (copied (map copy_of (drop c.copies.copy-index c.args.copies.now))) ≡ 0 =
    ap (λ l. length (copied (map copy_of l))) (drop_all c.copies.copy-index c.args.copies.now c.copies-test.false) in
    let h = c.copies.invariant.so_far in
    let b = c.copies.invariant.bound in
    omega (arith, none, h, b)
