use Rattle.cell_names.proofs.PartsInTurn.{finds_both}
use Rattle.cell_names.proofs.layouts.push_frame.Goals as goal

pub returns : goal.returns
returns c =
    finds_both c.args.places.now c.push_parameters.new.places c.push_variables.new.places _ _ c.in_ok-push_parameters.ensures c.in_ok-push_variables.ensures
