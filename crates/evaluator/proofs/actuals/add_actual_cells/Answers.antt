use Rattle.std.proofs.Common.{◌++◌, ◌∙◌, ◌∷◌, ap, map, reverse, sym}
use Rattle.evaluator.proofs.{Moves.comes_same, Turning.reverse_pushed}
use Rattle.evaluator.proofs.actuals.add_actual_cells.Goals as goal
use Rattle.evaluator.specs.{Rest.below_list, Rest.copies_in, Rest.left_now, Rest.top_list, declared.tasks.Now.TheVariants.Begin, declared.tasks.Part.Part}

pub returns-clause-turns : goal.returns-clause-turns
returns-clause-turns c m u same =
    let p = c.args.program.now in
    let k = c.take_list-values.ensures in
    let l = c.take_list-list.ensures in
    comes_same (same ∙ sym (λ i. left_now p ((l.home ∙ k.home) i) (Begin (Part.Pass c.args.next c.args.line)) (reverse ((l.tasks ∙ k.tasks) i))
    (reverse ((l.values ∙ k.values) i)) (record {
      cells = (reverse_pushed c.take_list-list.new.self.lists.items _ _ c.in_ok-push.ensures.items
          ∙ (λ j. (c.in_ok-append_all.ensures.added ∙ (λ n. (l.result ∙ ap top_list k.lists) n ++ k.result n)) j ∷ ((l.lists ∙ ap below_list k.lists) j).cells))
          i;
      copies = reverse (map copies_in ((l.copies ∙ k.copies) i));
    })))
