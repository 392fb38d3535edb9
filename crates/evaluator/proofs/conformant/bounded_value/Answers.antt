use Rattle.std.proofs.Common.{◌∙◌, ap, arith, sym}
use Rattle.core_program.specs.{Accesses.value_at, Tree.Bounded, Tree.bind}
use Rattle.evaluator.proofs.Turning.{moves_on}
use Rattle.evaluator.proofs.conformant.bounded_value.Goals as goal
use Rattle.evaluator.specs.Rest.{value_wanted, waiting}

pub returns-then-is_conformant-clause-moves : goal.returns-then-is_conformant-clause-moves
returns-then-is_conformant-clause-moves c =
    let p = c.args.program.now in
    let a = c.args.body.now in
    moves_on c.whole_value.ensures.moves (ap (λ b. bind (value_wanted p c.args.line c.args.of b (Bounded c.args.addr c.args.frame)) (waiting p a))
    (sym c.is_conformant.ensures ∙ c.if-is_conformant.true)) (omega arith)

pub returns-else-is_conformant-clause-moves : goal.returns-else-is_conformant-clause-moves
returns-else-is_conformant-clause-moves c =
    let p = c.args.program.now in
    let a = c.args.body.now in
    moves_on c.variable_value.ensures.moves (ap (λ b. bind (value_wanted p c.args.line c.args.of b (Bounded c.args.addr c.args.frame)) (waiting p a))
    (sym c.is_conformant.ensures ∙ c.if-is_conformant.false)
    ∙ ap (λ t. bind (value_at p c.args.line c.args.addr t) (waiting p a)) (sym c.type_row.ensures)) (omega arith)
