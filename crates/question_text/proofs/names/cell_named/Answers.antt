use Rattle.question_text.proofs.NamesWhole.{cell_is}
use Rattle.question_text.proofs.names.cell_named.Goals as goal
use Rattle.question_text.specs.Cards.{recorded_in}

pub returns : goal.returns
returns c =
    cell_is (recorded_in c.args.from.now) c.args.number c.args.parts.now c.args.name.now c.in_ok-found.found c.requires.parts c.in_ok-found.ensures
    c.requires.a_call
