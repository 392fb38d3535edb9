use Rattle.std.proofs.Common.{if◌then◌else◌, ◌∙◌, ℕ, ap, arith, sym}
use Rattle.core_program.specs.Accesses.{component_found, is_conformant}
use Rattle.eval_ops.specs.{Conformant.conformant_component, Machines.moment_of}
use Rattle.evaluator.proofs.{ConformantTrees.found_by, Turning.after_done, Turning.after_failed, Turning.moves_by}
use Rattle.evaluator.proofs.conformant.bounded_component.Goals as goal
use Rattle.evaluator.specs.{Rest.from, Rest.waiting, declared.tasks.Now.TheVariants.Came, declared.tasks.Way.Way}

pub returns-in-Ok-clause-moves : goal.returns-in-Ok-clause-moves
returns-in-Ok-clause-moves c =
    let p = c.args.program.now in
    let a = c.args.body.now in
    let f = c.in-Ok.found in
    after_done {X = ℕ} p a c.args.line (conformant_component p c.args.array c.args.addr c.args.frame c.args.value)
    (component_found (is_conformant p c.args.of) c.args.frame) (waiting p a) _ (λ x. x) f (moment_of c.args.machine.now)
    (moment_of c.conformant_component.new.machine) c.in-Ok.ensures.action
    (moves_by (c.either.ensures.turns p) c.either.ensures.falls c.either.ensures.home
    (found_by (is_conformant p c.args.of) c.args.frame f (waiting p a)
    ∙ ap (λ b. if b then from p a (Came (Way.Bounded f c.args.frame)) else from p a (Came (Way.Address f))) (sym c.is_conformant.ensures)) (omega arith))

pub returns-in-Err-clause-moves : goal.returns-in-Err-clause-moves
returns-in-Err-clause-moves c =
    let p = c.args.program.now in
    let a = c.args.body.now in
    after_failed {X = ℕ} p a c.args.line (conformant_component p c.args.array c.args.addr c.args.frame c.args.value)
    (component_found (is_conformant p c.args.of) c.args.frame) (waiting p a) _ (λ x. x) c.in-Err.halt (moment_of c.args.machine.now)
    (moment_of c.conformant_component.new.machine) c.in-Err.ensures.action c.fail.ensures.line c.fail.ensures.fails c.fail.ensures.home
