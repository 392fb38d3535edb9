use Rattle.std.proofs.Common.{◌∙◌, ◌≡◌, Some, ap, arith, sym}
use Rattle.core_program.specs.Statements as meaning
use Rattle.core_program.specs.Tree.{Exec, Line, Sub, bind}
use Rattle.eval_ops.specs.Machines.{moment_of}
use Rattle.evaluator.proofs.{StatementsByRow.told, Turning.after_it, Turning.moves_by, Turning.same_frame, Turning.turns_same}
use Rattle.evaluator.proofs.statements.begin_statement.Goals as goal
use Rattle.evaluator.specs.Rest.{carried, carry_with, here, waiting}

pub returns-in-Empty-clause-moves : goal.returns-in-Empty-clause-moves
returns-in-Empty-clause-moves c p e =
    let h = here c.args.body.now.home c.args.line in
    let rest = waiting p c.args.body.now in
    record {
      turns = turns_same p _ _ (moment_of c.args.machine.now) _ c.step.result c.step.new.body
          (ap (λ s. bind (meaning.statement p c.args.row h s) rest) c.in-Empty.is)
          (c.step.ensures.turns p);
      falls = λ g. omega (arith, c.step.ensures.falls g);
      frame = same_frame c.step.ensures.home;
    }

pub returns-in-Compound-clause-moves : goal.returns-in-Compound-clause-moves
returns-in-Compound-clause-moves c p e =
    let h = here c.args.body.now.home c.args.line in
    let rest = waiting p c.args.body.now in
    record {
      turns = turns_same p _ _ (moment_of c.args.machine.now) _ c.step-in-Compound.result c.step-in-Compound.new.body
          (ap (λ s. bind (meaning.statement p c.args.row h s) rest) c.in-Compound.is)
          (c.step-in-Compound.ensures.turns p);
      falls = λ g. omega (arith, c.step-in-Compound.ensures.falls g);
      frame = same_frame c.step-in-Compound.ensures.home;
    }

pub returns-in-Some-clause-moves : goal.returns-in-Some-clause-moves
returns-in-Some-clause-moves c p e =
    let h = here c.args.body.now.home c.args.line in
    let rest = waiting p c.args.body.now in
    let k : meaning.line_of c.args.statement ≡ Some c.in-Some.own = cc in
    record {
      turns = turns_same p _ _ (moment_of c.args.machine.now) _ c.tell.result c.tell.new.body
          (ap (λ t. bind t rest) (told p c.args.row h c.args.statement c.in-Some.own k)
          ∙ ap (λ t. Line c.in-Some.own (bind t rest))
          (sym (ap (carried p c.args.body.now.home c.args.row) e ∙ ap (carry_with p c.args.body.now.home c.args.row c.args.statement) k)))
          (c.tell.ensures.turns p);
      falls = λ g. omega (arith, c.tell.ensures.falls g);
      frame = same_frame c.tell.ensures.home;
    }

pub returns-then-row-inner-clause-moves : goal.returns-then-row-inner-clause-moves
returns-then-row-inner-clause-moves c p e =
    let h = here c.args.body.now.home c.args.line in
    let rest = waiting p c.args.body.now in
    moves_by (c.wait.ensures.turns p) c.wait.ensures.falls c.wait.ensures.home (ap (λ s. bind (meaning.statement p c.args.row h s) rest) c.in-Labelled.is ∙
    after_it c.args.row c.in-Labelled.inner (Sub (Exec c.in-Labelled.inner h) (meaning.on_labelled c.args.row c.in-Labelled.label h)) rest c.if-row-inner.true)
    (omega arith)
