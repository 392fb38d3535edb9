use Rattle.std.proofs.Common.{◌∙◌, ◌≡◌, ◌⊎◌, ℕ, subst, sym}
use Rattle.debuggee.specs.Execution.{Supply}
use Rattle.debug_cli.proofs.StatusByCode.{console_counted, either_code, no_console, no_screen, screen_code, screen_counted}
use Rattle.debug_cli.proofs.StatusIsRefusal.{no_fault_status, no_words_status, program_refused, session_refused}
use Rattle.debug_cli.proofs.TranscriptIsGiven.{first_part, tables_are_whole, wanted_or_memory, whole_transcript}
use Rattle.debug_cli.proofs.ask.ask_pascal.Goals as goal
use Rattle.debug_cli.specs.{Setting.InFiles, declared.status.Status.Status}

pub returns-clause-headline : goal.returns-clause-headline
returns-clause-headline g c = λ r t means e.
    let f = whole_transcript c.one_run.ensures c.args.words.now c.ask.ensures.gone (InFiles r means t) (sym c.code.ensures ∙ e) in
    let tokens = t.begun.run.source.tokens in
    let rows = t.begun.run.source.rows in
    let whole = tables_are_whole c.one_run.ensures c.args.words.now c.ask.ensures.gone r means t (sym c.code.ensures ∙ e) in
    let supply : Supply = record { input = t.begun.run.input; budget = r.budget } in
    record {
      granted = f.granted;
      read = f.read;
      printed = f.gave;
      asks = c.search_is_sound.ensures.asks tokens rows supply;
      narrows = c.search_is_sound.ensures.narrows tokens rows supply;
      finds = c.verdicts_are_found.ensures tokens rows whole supply;
    }

pub returns-clause-transcript : goal.returns-clause-transcript
returns-clause-transcript g c = λ set e.
    let f = whole_transcript c.one_run.ensures c.args.words.now c.ask.ensures.gone set (sym c.code.ensures ∙ e) in
    (f.granted, f.read, f.each, f.gave, f.files_are, f.counts_are)

pub returns-clause-prefix : goal.returns-clause-prefix
returns-clause-prefix g c = λ set well.
    let f = first_part c.one_run.ensures c.args.words.now c.ask.ensures.gone set well in (f.granted, f.read, f.few, f.gave, f.files_are, f.reached)

pub returns-clause-complete : goal.returns-clause-complete
returns-clause-complete g c = λ set wanted comes none.
    either_code c.ask.result wanted Status.Memory c.code.result c.code.ensures
    (wanted_or_memory c.one_run.ensures c.args.words.now c.ask.ensures.gone
    (record { console_counted = c.ask.ensures.console_faults; screen_counted = c.ask.ensures.screen_faults }) set wanted comes none)

pub returns-clause-usage : goal.returns-clause-usage
returns-clause-usage g c = λ none. subst (λ (n : ℕ). (n ≡ 2) ⊎ (n ≡ 6) ⊎ (n ≡ 7)) (sym c.code.ensures) (no_words_status c.ask.ensures.gone none)

pub returns-clause-no_program : goal.returns-clause-no_program
returns-clause-no_program g c = λ means told well still.
    let screen = no_screen c.ask.result (g.O.Printer.faults c.args.screen.now) (g.O.Printer.faults c.ask.new.screen) c.ask.ensures.screen_faults still in
    either_code c.ask.result Status.Source Status.Memory c.code.result c.code.ensures (program_refused c.ask.ensures.gone told well means screen)

pub returns-clause-no_session : goal.returns-clause-no_session
returns-clause-no_session g c = λ means told well still.
    let screen = no_screen c.ask.result (g.O.Printer.faults c.args.screen.now) (g.O.Printer.faults c.ask.new.screen) c.ask.ensures.screen_faults still in
    either_code c.ask.result Status.Session Status.Memory c.code.result c.code.ensures
    (session_refused c.ask.ensures.gone c.one_run.ensures told well means screen)

pub returns-clause-without_faults : goal.returns-clause-without_faults
returns-clause-without_faults g c = λ some quiet calm still.
    let console = no_console c.ask.result (g.I.Source.faults c.args.console.now) (g.I.Source.faults c.ask.new.console) c.ask.ensures.console_faults calm in
    let screen = no_screen c.ask.result (g.O.Printer.faults c.args.screen.now) (g.O.Printer.faults c.ask.new.screen) c.ask.ensures.screen_faults still in
    subst (λ (n : ℕ). (n ≡ 0) ⊎ (n ≡ 3) ⊎ (n ≡ 7) ⊎ (n ≡ 8) ⊎ (n ≡ 9)) (sym c.code.ensures)
    (no_fault_status c.ask.ensures.gone some quiet console screen)

pub returns-clause-goes : goal.returns-clause-goes
returns-clause-goes g c = (c.ask.result, c.code.ensures, c.ask.ensures.gone.goes)

pub returns-clause-console_faults : goal.returns-clause-console_faults
returns-clause-console_faults g c =
    console_counted c.ask.result c.code.result (g.I.Source.faults c.args.console.now) (g.I.Source.faults c.ask.new.console)
    c.code.ensures c.ask.ensures.console_faults

pub returns-clause-screen_faults : goal.returns-clause-screen_faults
returns-clause-screen_faults g c =
    screen_counted c.ask.result c.code.result (g.O.Printer.faults c.args.screen.now) (g.O.Printer.faults c.ask.new.screen)
    c.code.ensures c.ask.ensures.screen_faults

pub returns-clause-last : goal.returns-clause-last
returns-clause-last g c = λ e. c.ask.ensures.last (screen_code c.ask.result (sym c.code.ensures ∙ e))
