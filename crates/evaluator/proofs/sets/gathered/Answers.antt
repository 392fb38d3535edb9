use Rattle.std.proofs.Common.{Err, Ok, refl}
use Rattle.cell_value.specs.declared.values.Value.{Value}
use Rattle.core_program.specs.{Tree.Gather, Tree.Ret, Tree.Sub, Values.or_fault}
use Rattle.evaluator.proofs.Moves.{comes_same, comes_then}
use Rattle.evaluator.proofs.Turning.{did, fails, fails_after, given, turns_after, turns_failed}
use Rattle.evaluator.proofs.sets.gathered.Goals as goal
use Rattle.evaluator.specs.Rest.{here, waiting}

pub returns-in-Ok-clause-turns : goal.returns-in-Ok-clause-turns
returns-in-Ok-clause-turns c p m u same =
    let a = c.args.body.now in
    let k = λ (set : Value). Sub (Gather c.args.next set (here a.home c.args.line)) Ret in
    turns_after p _ _ _ _ _ c.gather_from.result c.gather_from.new.body (comes_then (comes_same same) (did {X = Value} p c.args.line (or_fault c.args.done) k
    (waiting p a) (λ v. v) c.in-Ok.set m m (given {X = Value} (λ v. v) (or_fault c.args.done) (Ok c.in-Ok.set) m c.in-Ok.ensures))) (c.gather_from.ensures.turns
    p m _ refl)

pub returns-in-Err-clause-turns : goal.returns-in-Err-clause-turns
returns-in-Err-clause-turns c p m u same =
    let a = c.args.body.now in
    let k = λ (set : Value). Sub (Gather c.args.next set (here a.home c.args.line)) Ret in
    turns_failed p _ _ _ c.args.line c.in-Err.halt c.fail.new.self c.fail.result c.fail.ensures.line c.fail.ensures.fails (fails_after p _ _ _ _ _ c.args.line
    c.in-Err.halt (comes_same same) (fails {X = Value} p c.args.line (or_fault c.args.done) k (waiting p a) (λ v. v) c.in-Err.halt m m (given {X = Value} (λ v.
    v) (or_fault c.args.done) (Err c.in-Err.halt) m c.in-Err.ensures)))
