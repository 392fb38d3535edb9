-- A turn, as what it is given.
use Rattle.std.specs.{Prelude.map, Option.option_map}
use Rattle.web_page.specs.Given.{FileGiven, TurnGiven}
use Rattle.web_page.specs.declared.turn.{NamedFile.NamedFile, PageTurn.PageTurn}

abbrev pub file_given : NamedFile → FileGiven
file_given file = record { name = file.name.now; bytes = file.bytes.now }

abbrev pub given_by : PageTurn → TurnGiven
given_by turn = record {
  source = turn.source.now;
  input = turn.input.now;
  budget = turn.budget.now;
  session = option_map (λ session. session.now) turn.session;
  files = map file_given turn.files.now;
  console = turn.console.now;
}
