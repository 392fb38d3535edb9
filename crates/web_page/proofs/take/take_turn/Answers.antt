use Rattle.std.proofs.Common.{◌∙◌, [], Some, ap, arith, inl, refl, rules}
use Rattle.std.proofs.lemmas.List.Elements.{All-nil}
use Rattle.ask_session.specs.{Console.EndsInTime, Console.GoesOn, Wishes.IsReadIn}
use Rattle.debuggee.specs.References.{IsReading}
use Rattle.debug_cli.specs.{Named.Words, Named.meaning, Setting.InFiles, declared.status.Status.Status}
use Rattle.web_page.proofs.ClausesAreCarried.{all_is_well, console_is_calm, ends, first_part, goes_on, headline, is_turn, no_fetch_failed, refused, unless_full}
use Rattle.web_page.proofs.take.take_turn.Goals as goal
use Rattle.web_page.specs.{Given.turn_files, Outside.files_at_start, Promises.telling_of_turn, Promises.transcript_of_turn, Turns.given_by}

pub returns-in-Ok-clause-headline : goal.returns-in-Ok-clause-headline
returns-in-Ok-clause-headline c =
    headline (given_by c.args.turn.now) (is_turn _ (given_by c.args.turn.now) (ap (λ (it : Words). meaning it) c.deref.ensures.value ∙ c.in-Ok.ensures.meaning)
    c.in-Ok.ensures.files c.new-console.ensures c.new-page.ensures.given (search rules))
    c.ask_pascal-status.ensures.headline

pub returns-in-Ok-clause-transcript : goal.returns-in-Ok-clause-transcript
returns-in-Ok-clause-transcript c = λ can done.
    let it = all_is_well (given_by c.args.turn.now) (is_turn _ (given_by c.args.turn.now)
    (ap (λ (it : Words). meaning it) c.deref.ensures.value ∙ c.in-Ok.ensures.meaning)
    c.in-Ok.ensures.files c.new-console.ensures c.new-page.ensures.given (search rules))
    (λ r t means e. c.ask_pascal-status.ensures.transcript (InFiles r means t) e) can done in
    (it.0, it.1, it.2, it.3, it.4, c.ask_pascal-status.new.keeper.files, it.5, c.give_back.ensures)

pub returns-in-Ok-clause-prefix : goal.returns-in-Ok-clause-prefix
returns-in-Ok-clause-prefix c = λ can.
    let it = first_part (given_by c.args.turn.now) (is_turn _ (given_by c.args.turn.now)
    (ap (λ (it : Words). meaning it) c.deref.ensures.value ∙ c.in-Ok.ensures.meaning)
    c.in-Ok.ensures.files c.new-console.ensures c.new-page.ensures.given (search rules))
    c.ask_pascal-status.new.keeper
    (λ r t means. c.ask_pascal-status.ensures.prefix (InFiles r means t) (no_fetch_failed c.in-Ok.files c.ask_pascal-status.new.keeper)) can in
    (it.0, it.1, it.2, it.3, it.5, c.ask_pascal-status.new.keeper.files, it.4, c.give_back.ensures)

pub returns-in-Ok-clause-done : goal.returns-in-Ok-clause-done
returns-in-Ok-clause-done c = λ can fits in_time. unless_full c.new-page.ensures.faults c.ask_pascal-status.ensures.screen_faults
    (λ calm. ends (given_by c.args.turn.now) (is_turn (record {
      meant = meaning c.deref.result.now;
      files = c.in-Ok.files;
      left = c.new-console.result;
      before = Some [];
      after = Some [];
    })
    (given_by c.args.turn.now) (ap (λ (it : Words). meaning it) c.deref.ensures.value ∙ c.in-Ok.ensures.meaning)
    c.in-Ok.ensures.files c.new-console.ensures refl refl) EndsInTime
    (λ r t means fit end still. c.ask_pascal-status.ensures.complete (InFiles r means t) Status.Done (fit, end)
    (no_fetch_failed c.in-Ok.files c.ask_pascal-status.new.keeper, console_is_calm, still))
    can fits in_time calm)

pub returns-in-Ok-clause-spent : goal.returns-in-Ok-clause-spent
returns-in-Ok-clause-spent c = λ can fits too_long. unless_full c.new-page.ensures.faults c.ask_pascal-status.ensures.screen_faults
    (λ calm. ends (given_by c.args.turn.now) (is_turn (record {
      meant = meaning c.deref.result.now;
      files = c.in-Ok.files;
      left = c.new-console.result;
      before = Some [];
      after = Some [];
    })
    (given_by c.args.turn.now) (ap (λ (it : Words). meaning it) c.deref.ensures.value ∙ c.in-Ok.ensures.meaning)
    c.in-Ok.ensures.files c.new-console.ensures refl refl) GoesOn
    (λ r t means fit end still. c.ask_pascal-status.ensures.complete (InFiles r means t) Status.Spent (fit, end)
    (no_fetch_failed c.in-Ok.files c.ask_pascal-status.new.keeper, console_is_calm, still))
    can fits too_long calm)

pub returns-in-Ok-clause-no_program : goal.returns-in-Ok-clause-no_program
returns-in-Ok-clause-no_program c = λ steps spelled short none. unless_full c.new-page.ensures.faults c.ask_pascal-status.ensures.screen_faults
    (λ calm. refused (given_by c.args.turn.now) (is_turn (record {
      meant = meaning c.deref.result.now;
      files = c.in-Ok.files;
      left = c.new-console.result;
      before = Some [];
      after = Some [];
    })
    (given_by c.args.turn.now) (ap (λ (it : Words). meaning it) c.deref.ensures.value ∙ c.in-Ok.ensures.meaning)
    c.in-Ok.ensures.files c.new-console.ensures refl refl)
    (λ no still. c.ask_pascal-status.ensures.no_program no refl (no_fetch_failed c.in-Ok.files c.ask_pascal-status.new.keeper) still) steps spelled short none
    calm)

pub returns-in-Ok-clause-goes : goal.returns-in-Ok-clause-goes
returns-in-Ok-clause-goes c =
    let it = goes_on (given_by c.args.turn.now) (is_turn _ (given_by c.args.turn.now)
    (ap (λ (it : Words). meaning it) c.deref.ensures.value ∙ c.in-Ok.ensures.meaning)
    c.in-Ok.ensures.files c.new-console.ensures c.new-page.ensures.given (search rules))
    c.ask_pascal-status.ensures.goes in
    (it.0, it.1, c.ask_pascal-status.new.keeper, c.give_back.ensures, c.ask_pascal-status.new.console, it.2)

pub returns-in-Err-clause-prefix : goal.returns-in-Err-clause-prefix
returns-in-Err-clause-prefix c = λ can. (
  [],
  All-nil (IsReadIn IsReading),
  omega arith,
  record { front = []; back = transcript_of_turn can []; whole = refl; gave = refl },
  record {
    count = 0;
    within = omega arith;
    answered = inl refl;
    gave = record { front = []; back = (telling_of_turn can).text [] []; whole = refl; gave = refl };
  },
  turn_files (given_by c.args.turn.now),
  refl,
  tt,
)

pub returns-in-Err-clause-goes : goal.returns-in-Err-clause-goes
returns-in-Err-clause-goes c = (
  Status.Memory,
  refl,
  files_at_start (given_by c.args.turn.now),
  tt,
  c.args.turn.now.console.now,
  inl (record { given = refl; counts = inl refl; alone = record { files = refl; left = refl } }),
)
