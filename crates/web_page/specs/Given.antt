-- What a turn of the command in a page is given, and what it asks of the command.
use Rattle.std.specs.Prelude.{◌++◌, ◌∷◌, [], ℕ, List, None, Option, Some, codes}
use Rattle.std.specs.{FinMap.empty, FinMap.insert, Option.option_map}
use Rattle.edge_ports.specs.Files.{FileMap}
use Rattle.debug_cli.specs.Meaning.{Meant, Source, budget_spelled}

-- a file, by its name
pub record FileGiven : Type 0 where
  pub name : List ℕ
  pub bytes : List ℕ

-- the bytes of the source and of the input; the digits of the budget; the session that is gone on with, if there is
-- one; further files; and the bytes of the console
pub record TurnGiven : Type 0 where
  pub source : List ℕ
  pub input : List ℕ
  pub budget : List ℕ
  pub session : Option (List ℕ)
  pub files : List FileGiven
  pub console : List ℕ

-- ---- the words

-- those on the session that is gone on with
abbrev pub session_words : Option (List ℕ) → List (List ℕ)
session_words None = []
session_words (Some session) = codes "--load" ∷ codes "loaded.session" ∷ []

abbrev pub turn_words : TurnGiven → List (List ℕ)
turn_words g =
    codes "pasask" ∷ codes "program.pas" ∷ codes "--input" ∷ codes "program.input" ∷ (codes "--budget=" ++ g.budget)
    ∷ session_words g.session

-- what they mean: the source, with the steps that the budget spells, or nothing
abbrev pub turn_meaning : TurnGiven → Option Meant
turn_meaning g = option_map (λ steps. Source (record {
  source = codes "program.pas";
  input = Some (codes "program.input");
  load = option_map (λ session. codes "loaded.session") g.session;
  budget = steps;
})) (budget_spelled g.budget)

-- ---- the files

-- these files with further ones; the last of a name counts
abbrev pub with_files : FileMap → List FileGiven → FileMap
with_files files [] = files
with_files files (file ∷ more) = with_files (insert files file.name file.bytes) more

-- with the session that is gone on with, if there is one
abbrev pub with_session : FileMap → Option (List ℕ) → FileMap
with_session files None = files
with_session files (Some session) = insert files (codes "loaded.session") session

-- further files, and over them those that the words name
abbrev pub turn_files : TurnGiven → FileMap
turn_files g =
    insert (insert (with_session (with_files empty g.files) g.session) (codes "program.input") g.input)
    (codes "program.pas") g.source
