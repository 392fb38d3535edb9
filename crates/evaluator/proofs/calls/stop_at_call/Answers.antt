use Rattle.std.proofs.Common.{◌++◌, ◌+◌, ◌∙◌, ◌∷◌, ◌≡◌, ap, map, refl, reverse, sym}
use Rattle.cell_value.specs.declared.values.Value.{Value}
use Rattle.core_program.specs.{Expressions.entering, Passed.args_at, Passed.copied, Passed.placed, Statements.nothing, Statements.on_normal, Tree.bind}
use Rattle.evaluator.proofs.Turning.{call_pauses, reverse_pushed}
use Rattle.evaluator.proofs.calls.stop_at_call.Goals as goal
use Rattle.evaluator.specs.Rest.{after_call, and_list, below_passed, below_top, copies_in, copy_of, first_of, lists_of, resume, top_passed}
use Rattle.evaluator.specs.Rest.{under_passed, values_of}

pub returns-then-procedure-clause-entered : goal.returns-then-procedure-clause-entered
returns-then-procedure-clause-entered c p m at h =
    let a = c.args.body.now in
    let b = c.take_copies-copies.new.self in
    let e = entering c.args.routine c.args.cells c.args.frame (top_passed (lists_of a)) in
    let ls = below_passed (lists_of a) in
    let x = c.take_list-list.ensures in
    let y = c.take_copies-copies.ensures in
    let copies = ap (map copy_of) c.deref.ensures.value ∙ y.result ∙ ap (λ l. first_of (reverse (map copies_in l))) x.copies in
    let args : c.in_ok-args.args ≡ args_at e m.state.top = c.in_ok-args.ensures.made
    ∙ (λ i. Value.Frame c.args.frame ∷ placed (sym at i + c.args.cells) (copies i) (x.result i) ++ copied (copies i)) in
    let lists : lists_of (record b { lists = c.push.new.self; tasks = c.push-then-procedure.new.self }) ≡ and_list (args_at e m.state.top) ls = λ i. record {
      cells = (reverse_pushed b.lists.items _ _ c.in_ok-push.ensures.items ∙ (λ j. args j ∷ (ap reverse y.lists ∙ (λ k. (x.lists k).cells)) j)) i;
      copies = (y.copies ∙ ap (λ l. below_top (reverse (map copies_in l))) x.copies) i;
    } in (
      call_pauses e (record b { lists = c.push.new.self; tasks = c.push-then-procedure.new.self }) h lists
          (ap (λ b out. bind (after_call b out) (under_passed p a)) c.if-procedure.true
          ∙ (λ i out. bind (on_normal nothing out) (resume p (sym (y.home ∙ x.home) i) (reverse (sym (y.tasks ∙ x.tasks) i))
          (reverse (sym (y.values ∙ x.values) i)) ls))
          ∙ ap (λ ts. resume p b.home ts (values_of b) ls) (sym (reverse_pushed b.tasks.items _ _ c.in_ok-push-2.ensures.items))),
      refl,
    )

pub returns-clause-entered : goal.returns-clause-entered
returns-clause-entered c p m at h =
    let a = c.args.body.now in
    let b = c.take_copies-copies.new.self in
    let e = entering c.args.routine c.args.cells c.args.frame (top_passed (lists_of a)) in
    let ls = below_passed (lists_of a) in
    let x = c.take_list-list.ensures in
    let y = c.take_copies-copies.ensures in
    let copies = ap (map copy_of) c.deref.ensures.value ∙ y.result ∙ ap (λ l. first_of (reverse (map copies_in l))) x.copies in
    let args : c.in_ok-args.args ≡ args_at e m.state.top = c.in_ok-args.ensures.made
    ∙ (λ i. Value.Frame c.args.frame ∷ placed (sym at i + c.args.cells) (copies i) (x.result i) ++ copied (copies i)) in
    let lists : lists_of (record b { lists = c.push.new.self }) ≡ and_list (args_at e m.state.top) ls = λ i. record {
      cells = (reverse_pushed b.lists.items _ _ c.in_ok-push.ensures.items ∙ (λ j. args j ∷ (ap reverse y.lists ∙ (λ k. (x.lists k).cells)) j)) i;
      copies = (y.copies ∙ ap (λ l. below_top (reverse (map copies_in l))) x.copies) i;
    } in (
      call_pauses e (record b { lists = c.push.new.self }) h lists
          (ap (λ b out. bind (after_call b out) (under_passed p a)) c.if-procedure.false
          ∙ (λ i. resume p (sym (y.home ∙ x.home) i) (reverse (sym (y.tasks ∙ x.tasks) i)) (reverse (sym (y.values ∙ x.values) i)) ls)),
      refl,
    )
