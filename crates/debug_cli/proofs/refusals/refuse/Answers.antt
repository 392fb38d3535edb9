use Rattle.std.proofs.Common.{ℕ, List, inl, subst}
use Rattle.debug_cli.proofs.refusals.refuse.Goals as goal
use Rattle.debug_cli.specs.{Given.GivesText, declared.status.Status.Status}

pub returns-in-Ok-clause-says : goal.returns-in-Ok-clause-says
returns-in-Ok-clause-says g c =
    let given = g.O.Printer.given c.args.screen.now in
    let given' = g.O.Printer.given c.give_text.new.screen in
    let text = subst (λ (b : List ℕ). GivesText c.give_text.result c.status.result b given given') c.as_slice.ensures c.give_text.ensures.gives in
    inl (c.in-Ok.text, c.in-Ok.ensures, subst (λ (s : Status). GivesText c.give_text.result s c.in-Ok.text given given') c.status.ensures.status text)
