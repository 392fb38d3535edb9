use Rattle.std.proofs.Common.{◌*◌, ◌+◌, ◌∙◌, ◌≡◌, ap, arith, drop, get_or, min, pos}
use Rattle.std.proofs.lemmas.Option.{slice_get-get_or}
use Rattle.core_program.specs.{Conformant.cells_over, declared.components.Extent.Extent}
use Rattle.eval_ops.proofs.CellsCounted.{cells_begun, cells_onward}
use Rattle.eval_ops.proofs.conformant.cells_over.Goals as goal

pub extents-init : goal.extents-init
extents-init c =
    let f = c.from.ensures in
    let g = c.min-cells.ensures in
    let e : c.min-cells.result ≡ min c.args.size 1048577 = cc in
    record { so_far = ap (λ n. min (cells_over c.args.extents.now n) 1048577) e ∙ cells_begun c.args.extents.now c.args.size; bound = omega (arith, e) }

pub extents-preserved : goal.extents-preserved
extents-preserved c =
    let es = c.args.extents.now in
    let i = c.extents.extent-index in
    let d : Extent = record { least = pos 0; greatest = pos 0 } in
    let g = c.min-cells-in-extents.ensures in
    record {
      so_far = ap (λ n. min (cells_over (drop (i + 1) es) n) 1048577) (g ∙ ap (λ v. min (c.extents.cells * v) 1048577) c.values_over.ensures.values)
          ∙ cells_onward es i c.extents.cells (get_or es i d) (slice_get-get_or es i d c.extents-test.true) ∙ c.extents.invariant.so_far;
      bound = omega (arith, g);
    }
