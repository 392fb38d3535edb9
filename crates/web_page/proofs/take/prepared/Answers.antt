use Rattle.std.proofs.Common.{◌∙◌, ap}
use Rattle.debug_cli.specs.Meaning.{meant}
use Rattle.web_page.proofs.WordsMean.{words_mean}
use Rattle.web_page.proofs.take.prepared.Goals as goal
use Rattle.web_page.specs.Turns.{given_by}

pub returns-clause-meaning : goal.returns-clause-meaning
returns-clause-meaning c = ap meant c.in_ok-words.ensures ∙ words_mean (given_by c.args.turn.now)
