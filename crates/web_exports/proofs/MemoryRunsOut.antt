-- A turn for which memory runs out before the command begins keeps its promises.
use Rattle.std.proofs.Common.{◌∙◌, ◌≡◌, [], ℕ, List, None, Option, Some, ap, arith, inl, inr, refl, subst, sym}
use Rattle.std.proofs.lemmas.List.Elements.{All-nil}
use Rattle.ask_session.specs.Wishes.{IsReadIn}
use Rattle.debuggee.specs.References.{IsReading}
use Rattle.debug_cli.specs.declared.status.Status.{Status}
use Rattle.web_page.specs.{Given.TurnGiven, Given.turn_files, Outcomes.TurnResult, Outside.files_at_start, declared.turn.SavedSession.SavedSession}
use Rattle.web_page.specs.Promises.{KeepsPromises, telling_of_turn, transcript_of_turn}
use Rattle.web_exports.specs.Returned.{TurnOf}

keeps : (g : TurnGiven) (room : List ℕ) → KeepsPromises g (record { status = 7; shown = []; saved = SavedSession.Memory; saved_room = room })
keeps g room = record {
  headline = λ c e. absurd (omega (arith, e));
  transcript = λ c e. absurd (omega (arith, e));
  prefix = λ c. (
    [],
    All-nil (IsReadIn IsReading),
    omega arith,
    record { front = []; back = transcript_of_turn c []; whole = refl; gave = refl },
    record {
      count = 0;
      within = omega arith;
      answered = inl refl;
      gave = record { front = []; back = (telling_of_turn c).text [] []; whole = refl; gave = refl };
    },
    turn_files g,
    refl,
    tt,
  );
  done = λ c fits ends. inr (inr refl);
  spent = λ c fits ends. inr (inr refl);
  usage = λ e. inr (inr refl);
  no_program = λ steps e short none. inr (inr refl);
  no_session = λ none. inr (inr refl);
  goes = (
    Status.Memory,
    refl,
    files_at_start g,
    tt,
    g.console,
    inl (record { given = refl; counts = inl refl; alone = record { files = refl; left = refl } }),
  );
  console = λ e. absurd (omega (arith, e));
}

out : (o : Option TurnGiven) (room : List ℕ) → TurnOf o (record { status = 7; shown = []; saved = SavedSession.Memory; saved_room = room })
out None room = inr refl
out (Some g) room = keeps g room

pub memory_out : (o : Option TurnGiven) (it : TurnResult) → it.status ≡ 7 → it.shown ≡ [] → it.saved ≡ SavedSession.Memory → TurnOf o it
memory_out o it e f h = subst (λ (x : TurnResult). TurnOf o x)
    (sym (ap (λ (n : ℕ). record { status = n; shown = it.shown; saved = it.saved; saved_room = it.saved_room }) e
    ∙ ap (λ (l : List ℕ). record { status = 7; shown = l; saved = it.saved; saved_room = it.saved_room }) f
    ∙ ap (λ (s : SavedSession). record { status = 7; shown = []; saved = s; saved_room = it.saved_room }) h)) (out o it.saved_room)
