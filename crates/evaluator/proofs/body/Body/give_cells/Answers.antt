use Rattle.std.proofs.Common.{◌∙◌, ap, sym}
use Rattle.core_program.specs.Tree.{Cells}
use Rattle.evaluator.proofs.{Moves.comes_same, Turning.reverse_pushed}
use Rattle.evaluator.proofs.body.Body.give_cells.Goals as goal
use Rattle.evaluator.specs.Rest.{below_list, lists_of, resume, tasks_of, top_list, values_of}

pub returns-clause-turns : goal.returns-clause-turns
returns-clause-turns c p m u e = comes_same (e ∙ sym (
    ap (λ l. let ls = record (lists_of c.args.self.now) { cells = l } in
    resume p c.args.self.now.home (tasks_of c.args.self.now) (values_of c.args.self.now) (below_list ls) (Cells (top_list ls)))
    (reverse_pushed c.args.self.now.lists.items _ c.args.values c.in_ok-push.ensures.items)))
