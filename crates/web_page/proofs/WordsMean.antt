-- What the words of a turn mean.
use Rattle.std.proofs.Common.{◌++◌, ◌∷◌, ◌≡◌, [], ℕ, List, None, Option, Some, codes, refl}
use Rattle.std.specs.Option.{option_map}
use Rattle.clap.specs.{Faults.defaults_fault, Faults.walk_fault, Walk.walked}
use Rattle.debug_cli.specs.Meaning.{meant}
use Rattle.web_page.specs.Given.{FileGiven, TurnGiven, turn_meaning, turn_words}

-- clap takes the words, whatever text the budget is
words_with : (source input budget console : List ℕ) (files : List FileGiven) (session : Option (List ℕ))
    → let g : TurnGiven = record { source = source; input = input; budget = budget; session = session; files = files; console = console } in
    meant (turn_words g) ≡ turn_meaning g
unfolding meant walk_fault defaults_fault walked
words_with source input budget console files None = refl
words_with source input budget console files (Some session) = refl

pub words_mean : (g : TurnGiven) → meant (turn_words g) ≡ turn_meaning g
words_mean g = words_with g.source g.input g.budget g.console g.files g.session
