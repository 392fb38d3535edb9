use Rattle.std.proofs.Common.{◌∙◌, ap}
use Rattle.core_program.specs.ProgramRows.{row_at}
use Rattle.check_steps.proofs.{Answered.answers_stay, Seen.unseen_row}
use Rattle.check_steps.proofs.compared.Compared.put_unseen.Goals as goal
use Rattle.check_steps.specs.Compared.{seen, seen_of}

pub invariant_of-self : goal.invariant_of-self
invariant_of-self c =
    answers_stay c.self.inside.most c.self.inside.program c.put.new.self c.self.inside.answers.entries
    (ap seen_of c.put.ensures ∙ unseen_row c.self.inside.program c.args.number c.args.row
    (ap (λ p. seen (row_at p c.args.number)) c.self.view_is ∙ c.requires.old) c.requires.new) c.self.invariant
