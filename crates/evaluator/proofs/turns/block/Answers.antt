use Rattle.std.proofs.Common.{◌≡◌, ℕ, List, Some, ap, arith, refl, sym}
use Rattle.core_program.specs.{Layer.of_body, ProgramRows.routine_at}
use Rattle.core_program.specs.Tree.{ActTree, Body, Ret, Sequence, Sub}
use Rattle.eval_ops.specs.Machines.{moment_of}
use Rattle.evaluator.proofs.Moves.{comes_same, comes_then}
use Rattle.evaluator.proofs.Turning.{fails_after, falls_failed, not_spent, part_comes, spent, turns_after, turns_failed}
use Rattle.evaluator.proofs.turns.block.Goals as goal
use Rattle.evaluator.specs.Rest.{bare, here, lists_of, resume, tasks_of, values_of}

pub returns-in-Ok-clause-moves : goal.returns-in-Ok-clause-moves
returns-in-Ok-clause-moves c =
    let p = c.args.program.now in
    let b = c.args.body.now in
    let home = b.home in
    let r = c.in-Some.routine in
    let K = resume p (bare home) (tasks_of b) (values_of b) (lists_of b) in
    let h : routine_at p home.routine ≡ Some r = cc in
    let next : List ℕ → ActTree = λ rs. Sub (Sequence r.statements r.statements (record (here home r.line) { records = rs })) (resume p (record home {
      records =
          rs;
    }) (tasks_of b) (values_of b) (lists_of b)) in
    record {
      turns = turns_after p _ _ _ _ _ c.go.result c.go.new.self (comes_then
          (part_comes p (Body home.routine home.base) K (moment_of c.args.machine.now) (of_body home.base (Some r)) (ap (of_body home.base) h))
          (comes_then (spent p (here (bare home) r.line) (Sub (Sequence r.statements r.statements (here (bare home) r.line)) Ret) K
          (moment_of c.args.machine.now) (moment_of c.spend.new.machine) c.in-Ok.ensures.act) (comes_same (ap next (sym c.leave_all.ensures)))))
          (c.go.ensures.turns p _ _ refl);
      falls = grind arith;
      frame = record { routine = ap (λ h. h.routine) c.go.ensures.home; base = ap (λ h. h.base) c.go.ensures.home };
    }

pub returns-in-Err-clause-moves : goal.returns-in-Err-clause-moves
returns-in-Err-clause-moves c =
    let p = c.args.program.now in
    let b = c.args.body.now in
    let home = b.home in
    let r = c.in-Some.routine in
    let K = resume p (bare home) (tasks_of b) (values_of b) (lists_of b) in
    let h : routine_at p home.routine ≡ Some r = cc in
    record {
      turns = turns_failed p (Sub (Body home.routine home.base) K) (moment_of c.args.machine.now) (moment_of c.spend.new.machine) r.line c.in-Err.halt
          c.fail.new.self c.fail.result c.fail.ensures.line c.fail.ensures.fails
          (fails_after p _ _ _ _ _ r.line c.in-Err.halt
          (part_comes p (Body home.routine home.base) K (moment_of c.args.machine.now) (of_body home.base (Some r)) (ap (of_body home.base) h))
          (not_spent p (here (bare home) r.line) (Sub (Sequence r.statements r.statements (here (bare home) r.line)) Ret) K c.in-Err.halt
          (moment_of c.args.machine.now) (moment_of c.spend.new.machine) c.in-Err.ensures.act));
      falls = falls_failed c.fail.result c.in-Err.halt _ _ c.fail.ensures.fails;
      frame = record { routine = ap (λ h. h.routine) c.fail.ensures.home; base = ap (λ h. h.base) c.fail.ensures.home };
    }
