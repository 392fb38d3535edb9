use Rattle.std.proofs.Common.{◌++◌, ◌+◌, ◌∙◌, ap, append_assoc, drop, length, map, refl, sym}
use Rattle.std.proofs.lemmas.Option.{slice_get_read}
use Rattle.core_program.specs.Passed.{copied}
use Rattle.evaluator.proofs.Arguments.{copied_next}
use Rattle.evaluator.proofs.calls.append_copies.Goals as goal
use Rattle.evaluator.specs.Rest.{copy_of}

pub copies-preserved : goal.copies-preserved
copies-preserved c =
    let e = slice_get_read c.args.copies.now (length c.args.copies.now) c.copies.copy-index c.copy-item.result refl c.copies-test.true c.copy-item.is in
    let rest = copied (map copy_of (drop (c.copies.copy-index + 1) c.args.copies.now)) in
    record {
      so_far = ap (λ l. l ++ rest) c.in_ok-append_all.ensures.added ∙ append_assoc c.copies.list c.copy-item.result.cells rest
          ∙ ap (λ l. c.copies.list ++ l) (sym (copied_next c.args.copies.now c.copies.copy-index c.copy-item.result e)) ∙ c.copies.invariant.so_far;
    }
