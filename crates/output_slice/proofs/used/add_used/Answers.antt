use Rattle.std.proofs.Common.{◌++◌, ◌∙◌, ap, append_assoc, sym}
use Rattle.cell_value.specs.Effects.{changes_of}
use Rattle.output_slice.proofs.PairsAdded.{numbered_append}
use Rattle.output_slice.proofs.used.add_used.Goals as goal
use Rattle.output_slice.specs.Backward.{others, used_among, used_cells, with_number}

pub returns : goal.returns
returns c call f e w a wants g =
    let n = c.args.call in
    let old = c.args.pairs.now in
    let cells = used_cells w (changes_of call.base call.log) in
    let rest = used_among wants w call others in
    c.in_ok-add_others.ensures call f e w a wants g
    ∙ ap (λ l. l ++ with_number n rest) (c.in_ok-add_cells.ensures w a.cells ∙ ap (λ xs. old ++ with_number n (used_cells w xs)) f.changes)
    ∙ append_assoc old (with_number n cells) (with_number n rest) ∙ ap (λ l. old ++ l) (sym (numbered_append n cells rest))
