use Rattle.std.proofs.Common.{◌+◌, ◌∙◌, ◌≡◌, None, ap, length, min, refl, sym}
use Rattle.core_program.specs.{Acts.limit_passed, Expressions.entering, Passed.copied, Tree.bind}
use Rattle.eval_ops.specs.{Machines.moment_of, declared.halt.Halt.TheVariants.Limited}
use Rattle.evaluator.proofs.{Arguments.frame_fits, Arguments.limit_counted, Moves.limit_here, Turning.entered_turns, Turning.moves_failed, Turning.same_frame}
use Rattle.evaluator.proofs.calls.enter.Goals as goal
use Rattle.evaluator.specs.Rest.{after_call, first_of, lists_of, top_passed, under_passed}

pub stop_at_call-requires : goal.stop_at_call-requires
stop_at_call-requires c =
    let σ = (moment_of c.args.machine.now).state in
    let n = length (copied (first_of (lists_of c.args.body.now).copies)) in
    record {
      fits = frame_fits σ (c.args.cells + n) (sym (limit_counted σ c.args.cells n)
          ∙ ap (λ k. limit_passed σ (min (c.args.cells + k) 4294967295)) (sym c.cells_copied.ensures)
          ∙ ap (limit_passed σ) (sym c.saturating_add.ensures) ∙ sym c.limit_passed.ensures ∙ c.in-None.is);
    }

pub returns-in-None : goal.returns-in-None
returns-in-None c = record {
  moves = λ p r h e. let m = moment_of c.args.machine.now in let n = length (copied (first_of (lists_of c.args.body.now).copies)) in
      let free : limit_passed m.state (c.args.cells + n) ≡ None = sym (limit_counted m.state c.args.cells n)
      ∙ ap (λ k. limit_passed m.state (min (c.args.cells + k) 4294967295)) (sym c.cells_copied.ensures)
      ∙ ap (limit_passed m.state) (sym c.saturating_add.ensures) ∙ sym c.limit_passed.ensures ∙ c.in-None.is in
      record {
        turns = entered_turns p _ m c.args.routine c.stop_at_call.result c.stop_at_call.new.body (c.stop_at_call.ensures.entered p m refl free) r h
            (c.args.cells + n) free;
        falls = c.stop_at_call.ensures.falls _ _;
        frame = same_frame c.stop_at_call.ensures.home;
      };
}

pub returns-in-Some : goal.returns-in-Some
returns-in-Some c = record {
  moves = λ p r h e. let a = c.args.body.now in let m = moment_of c.args.machine.now in
      let n = length (copied (first_of (lists_of a).copies)) in
      moves_failed {e = Limited c.in-Some.which} c.fail.ensures.fails c.fail.ensures.line c.fail.ensures.home (limit_here {p = p}
      (entering c.args.routine c.args.cells c.args.frame (top_passed (lists_of a))) (λ x. bind (after_call c.args.procedure x) (under_passed p a))
      c.in-Some.which m (sym (limit_counted m.state c.args.cells n)
      ∙ ap (λ k. limit_passed m.state (min (c.args.cells + k) 4294967295)) (sym c.cells_copied.ensures)
      ∙ ap (limit_passed m.state) (sym c.saturating_add.ensures) ∙ sym c.limit_passed.ensures ∙ c.in-Some.is));
}
