-- What a turn promises, of what is passed and of the numbers that come back.
use Rattle.std.proofs.Common.{◌∙◌, ◌≡◌, [], ℕ, List, Option, Some, ap, subst, sym, take}
use Rattle.std.specs.Option.{option_map}
use Rattle.web_page.specs.{Given.FileGiven, Given.TurnGiven, Outcomes.TurnResult, Outcomes.result_of, Promises.KeepsPromises}
use Rattle.web_page.specs.declared.turn.{SavedSession.SavedSession, TurnOutcome.TurnOutcome}
use Rattle.web_exports.specs.{Files.files_in, Returned.TurnOf, Returned.result_in, Returned.saved_by, declared.Came.Came}
use Rattle.web_exports.specs.Passed.{TurnPassed, given_in, given_with, session_if, text_or_empty}

pub given_same : (p : TurnPassed) {budget : List ℕ} {session : Option (List ℕ)} {files' files : List FileGiven}
    → budget ≡ text_or_empty p.budget → session ≡ session_if p.has_session p.session → files' ≡ files
    → ◌≡◌ {A = TurnGiven}
    (record { source = p.source; input = p.input; budget = budget; session = session; files = files'; console = p.console }) (given_with p files)
given_same p {budget} {session} {files'} {files} b s f =
    ap (λ (it : List ℕ). record { source = p.source; input = p.input; budget = it; session = session; files = files'; console = p.console }) b
    ∙ ap (λ (it : Option (List ℕ)). record {
      source = p.source;
      input = p.input;
      budget = text_or_empty p.budget;
      session = it;
      files = files';
      console = p.console;
    }) s
    ∙ ap (given_with p) f

pub result_same : (outcome : TurnOutcome) (came : Came) (screen saved : List ℕ) → came.status ≡ outcome.status → came.screen ≡ outcome.screen
    → saved_by came.session came.saved ≡ outcome.saved → result_of outcome screen saved ≡ result_in came screen saved
result_same outcome came screen saved e f g =
    ap (λ (it : ℕ). record { status = it; shown = take outcome.screen screen; saved = outcome.saved; saved_room = saved }) (sym e)
    ∙ ap (λ (it : ℕ). record { status = came.status; shown = take it screen; saved = outcome.saved; saved_room = saved }) (sym f)
    ∙ ap (λ (it : SavedSession). record { status = came.status; shown = take came.screen screen; saved = it; saved_room = saved }) (sym g)

pub turn_passed : (p : TurnPassed) {files : List FileGiven} {g : TurnGiven} {it it' : TurnResult} → files_in [] p.sizes p.files ≡ Some files
    → g ≡ given_with p files → it ≡ it' → KeepsPromises g it → TurnOf (given_in p) it'
turn_passed p {files} {g} {it} {it'} found same told kept =
    subst (λ (o : Option (List FileGiven)). TurnOf (option_map (given_with p) o) it') (sym found)
    (subst (λ (x : TurnGiven). KeepsPromises x it') same (subst (λ (x : TurnResult). KeepsPromises g x) told kept))
