use Rattle.std.proofs.Common.{if◌then◌else◌, ◌++◌, ◌<◌, ◌∙◌, ◌∷◌, [], ap, append-nil, arith, sym, take}
use Rattle.output_slice.proofs.{AmongLists.all_at, NeedsBefore.take_found, NeedsBefore.take_whole, PairsAdded.cell_added}
use Rattle.output_slice.proofs.used.add_cells.Goals as goal
use Rattle.output_slice.specs.{Backward.used_cells, Backward.with_number, declared.outputs.Output.TheVariants.Cell}

pub loop-i-init : goal.loop-i-init
loop-i-init c w h = sym (append-nil c.args.pairs.now)

pub loop-i-preserved : goal.loop-i-preserved
loop-i-preserved c w h =
    let x = c.at-addr.result in
    let xs = c.args.changes.now in
    let n = c.args.call in
    let inside : x.0 < 1048576 = all_at (λ x. x.0 < 1048576) xs c.loop-i.i x c.requires.inside c.at-addr.ensures.found in
    c.in_ok-push_if.ensures
    ∙ ap (λ b. c.loop-i.pairs ++ (if b then (n, Cell x.0) ∷ [] else [])) (c.has.ensures ∙ h x.0 inside)
    ∙ ap (λ l. l ++ (if w.cells x.0 then (n, Cell x.0) ∷ [] else [])) (c.loop-i.invariant w h)
    ∙ cell_added c.args.pairs.now n w (take c.loop-i.i xs) x
    ∙ ap (λ l. c.args.pairs.now ++ with_number n (used_cells w l)) (sym (take_found xs c.loop-i.i x c.at-addr.ensures.found))

pub returns : goal.returns
returns c w h = c.loop-i.invariant w h ∙ ap (λ l. c.args.pairs.now ++ with_number c.args.call (used_cells w l))
    (take_whole c.args.changes.now c.loop-i.i (omega (arith, c.loop-i-test.false, c.len-i-end.ensures)))
