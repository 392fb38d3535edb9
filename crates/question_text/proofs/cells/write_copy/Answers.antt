use Rattle.std.proofs.Common.{◌++◌, ◌+◌, ◌-◌, ◌∙◌, ◌≡◌, ◌≤◌, ap, arith, length, min}
use Rattle.cell_names.specs.Names.{scene_in}
use Rattle.question_text.proofs.CopiesInRange.{range_capped}
use Rattle.question_text.proofs.cells.write_copy.Goals as goal
use Rattle.question_text.specs.Cells.{cells_text}

pub write_cells-requires : goal.write_cells-requires
write_cells-requires g c = let e = c.len.ensures in let m = c.min-to.ensures in omega (arith, e, m)

pub returns : goal.returns
returns g c =
    let args = c.args.args.now in
    let e = c.len.ensures in
    let range = c.len.type_inv in
    let most : length args ≤ 4294967295 = omega (arith, e, range) in
    let first = c.args.routine.parameters + (c.args.copy.place - c.args.routine.cells) in
    let from : c.saturating_add-from.result ≡ min first 4294967295 =
    c.saturating_add-from.ensures ∙ ap (λ n. min (c.args.routine.parameters + n) 4294967295) c.saturating_sub-before.ensures in
    let to : c.min-to.result ≡ min (min (c.saturating_add-from.result + c.args.copy.cells) 4294967295) (length args) =
    c.min-to.ensures ∙ ap (λ n. min n c.len.result) c.saturating_add.ensures
    ∙ ap (λ n. min (min (c.saturating_add-from.result + c.args.copy.cells) 4294967295) n) e in
    let out = (g.P.Printer.printout c.args.out.now).text in (
      c.write_cells.ensures.0 ∙ ap (λ vs. out ++ cells_text (scene_in c.args.scene.now) c.args.frame c.args.copy.place vs)
          (range_capped args first c.args.copy.cells c.saturating_add-from.result c.min-to.result most from to),
      c.write_cells.ensures.1,
    )
