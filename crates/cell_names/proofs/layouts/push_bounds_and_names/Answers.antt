use Rattle.std.proofs.Common.{◌++◌, ◌∙◌, ap}
use Rattle.cell_names.proofs.PartsInTurn.{finds_both}
use Rattle.cell_names.proofs.layouts.push_bounds_and_names.Goals as goal
use Rattle.cell_names.specs.{Layouts.bounds_before, Places.finds}

pub returns : goal.returns
returns c =
    finds_both c.args.places.now c.push_bounds_before.new.places c.push_section.new.places _ _
    (c.in_ok-push_bounds_before.ensures ∙ ap (λ r. finds (c.args.places.now ++ bounds_before c.args.program.now r)) c.row.ensures)
    c.in_ok-push_section.ensures
