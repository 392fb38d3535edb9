use Rattle.std.proofs.Common.{if◌then◌else◌, Bool, arith}
use Rattle.core_program.specs.{Acts.TakeIf, Input.any_item, Input.past_item, Input.tells_line_end, Statements.nothing, Tree.RestOfLine, Tree.Ret, Tree.Sub}
use Rattle.eval_ops.specs.Machines.{moment_of}
use Rattle.evaluator.proofs.{Moves.begins, Moves.bind_if, Moves.comes_same, Moves.comes_then, StepsFall.first_falls}
use Rattle.evaluator.proofs.Turning.{did, fails, fails_after, moves_after_by, moves_failed}
use Rattle.evaluator.proofs.reading.pass_line.Goals as goal
use Rattle.evaluator.specs.Rest.{here, waiting}

pub returns-in-Ok-clause-moves : goal.returns-in-Ok-clause-moves
returns-in-Ok-clause-moves c p =
    let m = moment_of c.args.machine.now in
    let m' = moment_of c.past_item.new.machine in
    let h = here c.args.body.now.home c.args.line in
    let K = waiting p c.args.body.now in
    let l = first_falls {X = Bool} (λ e. e) (TakeIf any_item) tells_line_end c.in-Ok.ended (moment_of c.args.machine.now) (moment_of c.past_item.new.machine)
    c.in-Ok.ensures.action in
    moves_after_by (c.either.ensures.turns p) c.either.ensures.falls c.either.ensures.home (comes_then (begins (RestOfLine h) K m) (comes_then (did {X = Bool} p
    c.args.line past_item (λ ended. if ended then nothing else Sub (RestOfLine h) Ret) K (λ e. e) c.in-Ok.ended m m' c.in-Ok.ensures.action) (comes_same
    (bind_if c.in-Ok.ended nothing (Sub (RestOfLine h) Ret) K)))) (omega (arith, l))

pub returns-in-Err-clause-moves : goal.returns-in-Err-clause-moves
returns-in-Err-clause-moves c p =
    let m = moment_of c.args.machine.now in
    let m' = moment_of c.past_item.new.machine in
    let h = here c.args.body.now.home c.args.line in
    let K = waiting p c.args.body.now in
    moves_failed c.fail.ensures.fails c.fail.ensures.line c.fail.ensures.home (fails_after p _ _ _ _ _ c.args.line c.in-Err.halt (begins (RestOfLine h) K m)
    (fails {X = Bool} p c.args.line past_item (λ ended. if ended then nothing else Sub (RestOfLine h) Ret) K (λ e. e) c.in-Err.halt m m'
    c.in-Err.ensures.action))
