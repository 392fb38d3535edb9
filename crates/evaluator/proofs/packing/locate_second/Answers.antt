use Rattle.std.proofs.Common.{◌∙◌, ap, sym}
use Rattle.core_program.specs.{Accesses.locate, Tree.bind}
use Rattle.evaluator.proofs.packing.locate_second.Goals as goal
use Rattle.evaluator.specs.Rest.{both_located, here, places, waiting}

pub returns-clause-turns : goal.returns-clause-turns
returns-clause-turns c p m u same =
    let a = c.args.body.now in
    c.wait.ensures.turns p m u (same ∙ ap (λ r. bind (locate r (here a.home c.args.rows.line) (λ second.
    both_located p a.home c.args.packing c.args.rows.index (places c.args.packing c.args.rows c.args.addr second))) (waiting p a)) (sym c.row_after.ensures))
