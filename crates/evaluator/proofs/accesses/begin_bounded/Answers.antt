use Rattle.std.proofs.Common.{◌∙◌, ap, arith}
use Rattle.core_program.specs.{Accesses.of_access, Tree.bind}
use Rattle.evaluator.proofs.{ConformantTrees.component_indexed, Turning.moves_by, Turning.moves_on}
use Rattle.evaluator.proofs.accesses.begin_bounded.Goals as goal
use Rattle.evaluator.specs.Rest.{here, waiting}

pub returns-in-Conformant-clause-moves : goal.returns-in-Conformant-clause-moves
returns-in-Conformant-clause-moves c = moves_on c.conformant.ensures.moves (rw c.in-Conformant.is) (omega arith)

pub returns-in-Component-clause-moves : goal.returns-in-Component-clause-moves
returns-in-Component-clause-moves c =
    let p = c.args.program.now in
    let a = c.args.body.now in
    let i = c.in-Component in
    moves_by (c.locate_bounded.ensures.turns p) c.locate_bounded.ensures.falls c.locate_bounded.ensures.home
    (ap (λ r. bind (of_access p c.args.row c.args.target (here a.home c.args.line) r) (waiting p a)) i.is
    ∙ ap (λ t. bind t (waiting p a)) (component_indexed p a.home c.args.line c.args.row c.args.target i.access i.index i.array i.of)) (omega arith)
