use Rattle.std.proofs.Common.{◌++◌, ◌∙◌, ap}
use Rattle.cell_names.proofs.PartsInTurn.{finds_both}
use Rattle.cell_names.proofs.layouts.push_spec.Goals as goal
use Rattle.cell_names.specs.{Layouts.parts_at, Places.finds}

pub returns : goal.returns
returns c =
    finds_both c.args.places.now c.push_name.new.places c.push_name-2.new.places _ _
    (c.in_ok-push_name.ensures ∙ ap (λ n. finds (c.args.places.now ++ parts_at c.args.program.now n)) c.token_after.ensures)
    (c.in_ok-push_name-2.ensures ∙ ap (λ n. finds (c.push_name.new.places ++ parts_at c.args.program.now n)) c.token_after-2.ensures)
