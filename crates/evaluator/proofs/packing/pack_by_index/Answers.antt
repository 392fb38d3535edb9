use Rattle.std.proofs.Common.{◌∙◌, ap, sym}
use Rattle.core_program.specs.Tree.{bind}
use Rattle.evaluator.proofs.packing.pack_by_index.Goals as goal
use Rattle.evaluator.specs.Rest.{both_located, waiting}

pub returns-clause-turns : goal.returns-clause-turns
returns-clause-turns c p m u same =
    let a = c.args.body.now in
    c.wait.ensures.turns p m u (same ∙ ap (λ x. bind (both_located p a.home c.args.packing c.args.rows.index x) (waiting p a)) (sym c.places_of-found.ensures))
