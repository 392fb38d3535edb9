use Rattle.std.proofs.Common.{arith}
use Rattle.core_program.specs.{Input.scan_on, Transfers.on_scanned, Tree.Scanning, declared.scan.Scanned.Scanned}
use Rattle.eval_ops.specs.Machines.{moment_of}
use Rattle.evaluator.proofs.{Moves.begins, Moves.comes_then, TransfersByRow.scan_falls}
use Rattle.evaluator.proofs.Turning.{did, fails, fails_after, moves_after_by, moves_failed}
use Rattle.evaluator.proofs.reading.scan.Goals as goal
use Rattle.evaluator.specs.Rest.{here, waiting}

pub returns-in-Ok-clause-moves : goal.returns-in-Ok-clause-moves
returns-in-Ok-clause-moves c p =
    let m = moment_of c.args.machine.now in
    let m' = moment_of c.scan_on.new.machine in
    let h = here c.args.body.now.home c.args.line in
    let l = scan_falls c.args.scan c.in-Ok.scanned (moment_of c.args.machine.now) (moment_of c.scan_on.new.machine) c.in-Ok.ensures.action in
    moves_after_by (c.after_scan.ensures.turns p) c.after_scan.ensures.falls c.after_scan.ensures.home (comes_then (begins (Scanning c.args.scan h) (waiting p
    c.args.body.now) m) (did {X = Scanned} p c.args.line (scan_on c.args.scan) (on_scanned h) (waiting p c.args.body.now) (λ s. s) c.in-Ok.scanned m m'
    c.in-Ok.ensures.action)) (omega (arith, l))

pub returns-in-Err-clause-moves : goal.returns-in-Err-clause-moves
returns-in-Err-clause-moves c p =
    let m = moment_of c.args.machine.now in
    let m' = moment_of c.scan_on.new.machine in
    let h = here c.args.body.now.home c.args.line in
    moves_failed c.fail.ensures.fails c.fail.ensures.line c.fail.ensures.home (fails_after p _ _ _ _ _ c.args.line c.in-Err.halt (begins (Scanning c.args.scan
    h) (waiting p c.args.body.now) m) (fails {X = Scanned} p c.args.line (scan_on c.args.scan) (on_scanned h) (waiting p c.args.body.now) (λ s. s) c.in-Err.halt
    m m' c.in-Err.ensures.action))
