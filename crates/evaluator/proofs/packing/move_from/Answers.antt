use Rattle.std.proofs.Common.{ℕ, Err, Ok, arith}
use Rattle.eval_ops.specs.Machines.{moment_of}
use Rattle.evaluator.proofs.Turning.{after_failed, did, given, moves_after}
use Rattle.evaluator.proofs.packing.move_from.Goals as goal
use Rattle.evaluator.specs.Rest.{copied, waiting}

pub returns-in-Ok-clause-moves : goal.returns-in-Ok-clause-moves
returns-in-Ok-clause-moves c p does g =
    let m = moment_of c.args.machine.now in
    moves_after (c.copy.ensures.moves p) (did {X = ℕ} p c.args.places.line does (copied c.args.body.now.home c.args.packing c.args.places c.args.cells)
    (waiting p c.args.body.now) (λ n. n) c.in-Ok.at m m (given {X = ℕ} (λ n. n) does (Ok c.in-Ok.at) m (rw c.in-Ok.is at g))) (omega arith)

pub returns-in-Err-clause-moves : goal.returns-in-Err-clause-moves
returns-in-Err-clause-moves c p does g =
    let m = moment_of c.args.machine.now in
    after_failed {X = ℕ} p c.args.body.now c.args.places.line does (copied c.args.body.now.home c.args.packing c.args.places c.args.cells)
    (waiting p c.args.body.now) _ (λ n. n) c.in-Err.halt m m (given {X = ℕ} (λ n. n) does (Err c.in-Err.halt) m (rw c.in-Err.is at g)) c.fail.ensures.line
    c.fail.ensures.fails c.fail.ensures.home
