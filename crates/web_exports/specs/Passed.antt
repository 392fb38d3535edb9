-- What is passed to a turn, as what it is given.
use Rattle.std.specs.Prelude.{[], ℕ, Bool, List, None, Option, Some, false, true}
use Rattle.std.specs.Option.{option_map, unwrap_or}
use Rattle.web_page.specs.Given.{FileGiven, TurnGiven}
use Rattle.web_exports.specs.{Files.files_in, Files.text_in, declared.FileSizes.FileSizes}

pub record TurnPassed : Type 0 where
  pub source : List ℕ
  pub input : List ℕ
  pub budget : List ℕ
  pub has_session : Bool
  pub session : List ℕ
  pub sizes : List FileSizes
  pub files : List ℕ
  pub console : List ℕ

abbrev pub session_if : (has_session : Bool) → (session : List ℕ) → Option (List ℕ)
session_if true session = Some session
session_if false session = None

-- the text that bytes are, and else the empty one
abbrev pub text_or_empty : List ℕ → List ℕ
text_or_empty bytes = unwrap_or (text_in bytes) []

-- what the turn is given, with these further files
abbrev pub given_with : TurnPassed → List FileGiven → TurnGiven
given_with p files = record {
  source = p.source;
  input = p.input;
  budget = text_or_empty p.budget;
  session = session_if p.has_session p.session;
  files = files;
  console = p.console;
}

-- where they come as they should
abbrev pub given_in : TurnPassed → Option TurnGiven
given_in p = option_map (given_with p) (files_in [] p.sizes p.files)
