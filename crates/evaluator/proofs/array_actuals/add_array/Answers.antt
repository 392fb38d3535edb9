use Rattle.std.proofs.Common.{◌++◌, ◌∙◌, ◌∷◌, [], ap, length, reverse, sym}
use Rattle.cell_value.specs.declared.values.Value.TheVariants.{Undefined}
use Rattle.evaluator.proofs.{Moves.comes_same, Turning.reverse_pushed}
use Rattle.evaluator.proofs.array_actuals.add_array.Goals as goal
use Rattle.evaluator.specs.Rest.{left_now, with_copy}
use Rattle.evaluator.specs.declared.tasks.{Now.TheVariants.Begin, Part.Part}

pub returns-clause-turns : goal.returns-clause-turns
returns-clause-turns c m u same =
    let p = c.args.program.now in
    let a = c.args.body.now in
    let k = c.take_list-list.ensures in
    let g = c.in_ok-add_copy.ensures in
    let passed = c.in_ok-append_all.ensures.added ∙ ap (λ l. l ++ c.args.passed.bounds) k.result in
    let at = c.len-at.ensures ∙ ap length passed in
    let cells = c.in_ok-add_value.ensures.added ∙ ap (λ l. l ++ Undefined ∷ []) passed in
    let ls = g.copies ∙ (λ i. with_copy (k.lists i) (record { at = at i; cells = c.args.passed.cells })) in
    comes_same (same ∙ sym (λ i. left_now p ((g.home ∙ k.home) i) (Begin (Part.Pass c.args.next c.args.line)) (reverse ((g.tasks ∙ k.tasks) i))
    (reverse ((g.values ∙ k.values) i)) (record {
      cells = (reverse_pushed c.add_copy.new.self.lists.items _ _ c.in_ok-push.ensures.items ∙ (λ j. cells j ∷ (ls j).cells)) i;
      copies = (ls i).copies;
    })))
