use Rattle.std.proofs.Common.{◌++◌, ◌∙◌, ◌∷◌, [], ap, map, reverse, sym}
use Rattle.cell_value.specs.declared.values.Value.{Value}
use Rattle.evaluator.proofs.{Moves.comes_same, Turning.reverse_pushed}
use Rattle.evaluator.proofs.array_actuals.add_place.Goals as goal
use Rattle.evaluator.specs.{Rest.copies_in, Rest.left_now, declared.tasks.Now.TheVariants.Begin, declared.tasks.Part.Part}

pub returns-clause-turns : goal.returns-clause-turns
returns-clause-turns c m u same =
    let p = c.args.program.now in
    let k = c.take_list-list.ensures in
    comes_same (same ∙ sym (λ i. left_now p (k.home i) (Begin (Part.Pass c.args.next c.args.line)) (reverse (k.tasks i)) (reverse (k.values i)) (record {
      cells = (reverse_pushed c.take_list-list.new.self.lists.items _ _ c.in_ok-push.ensures.items
          ∙ (λ j. (c.in_ok-add_value.ensures.added ∙ ap (λ l. l ++ Value.Place c.args.addr ∷ [])
          (c.in_ok-append_all.ensures.added ∙ ap (λ l. l ++ c.args.bounds.now) k.result)) j ∷ (k.lists j).cells)) i;
      copies = reverse (map copies_in (k.copies i));
    })))
