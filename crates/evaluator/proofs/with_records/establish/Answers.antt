use Rattle.std.proofs.Common.{◌++◌, ◌∙◌, ◌∷◌, [], ℕ, List, ap, sym}
use Rattle.core_program.specs.Tree.{ActTree, Establish, Sub}
use Rattle.evaluator.proofs.RecordsLeft.{added_left}
use Rattle.evaluator.proofs.with_records.establish.Goals as goal
use Rattle.evaluator.specs.Records.{without_last}
use Rattle.evaluator.specs.Rest.{here, lists_of, resume, tasks_of, values_of}

pub returns-clause-turns : goal.returns-clause-turns
returns-clause-turns c p m u same =
    let b = c.args.body.now in
    let h = here b.home c.args.line in
    let inner : List ℕ → List ℕ → ActTree = λ inside outside. Sub (Establish c.args.next c.args.inner (record h { records = inside })) (resume p (record b.home
    { records = outside }) (tasks_of b) (values_of b) (lists_of b)) in
    c.wait.ensures.turns p m u (same ∙ ap (inner (b.home.records ++ c.args.addr ∷ [])) (sym (added_left b.home.records c.args.addr)) ∙ ap (λ rs. inner rs
    (without_last rs)) (sym c.in_ok-enter.ensures.added))
