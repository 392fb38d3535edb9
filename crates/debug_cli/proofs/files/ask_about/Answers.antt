use Rattle.std.proofs.Common.{◌∙◌, ◌≡◌, ◌≤◌, ℕ, Bool, List, Some, ap, inl, length, refl, subst, sym}
use Rattle.sha2.specs.Sha256.{sha256}
use Rattle.edge_ports.specs.Counts.{Counted}
use Rattle.dialog_replies.specs.declared.start.Start.{Start}
use Rattle.ask_session.specs.{Outside.Outside, Went.Went}
use Rattle.debuggee.specs.{Execution.Execution, Execution.execution_of, Limits.input_bytes, References.IsReading, Subjects.subject_of}
use Rattle.debug_cli.proofs.{DigestsAreWhole.digest_whole, StatusTellsWhy.talk_goes, WhatIsSupplied.input_short}
use Rattle.debug_cli.proofs.StatusByCode.{console_by_end, screen_by_end}
use Rattle.debug_cli.proofs.files.ask_about.Goals as goal
use Rattle.debug_cli.specs.{Goes.Goes, Meaning.Requested, Meaning.Source, Named.Begun, Named.start_in, Outside.outside, Reading.requested_by}
use Rattle.debug_cli.specs.Status.{is_console, is_screen}

pub run_program-requires-clause-input : goal.run_program-requires-clause-input
run_program-requires-clause-input g c =
    subst (λ (b : List ℕ). length b ≤ input_bytes) (sym c.as_slice-3.ensures)
    (input_short (g.K.Keeper.files c.args.keeper.now) (requested_by c.args.request.now).input c.args.supplied.input c.requires.supplied.input)

pub converse-requires : goal.converse-requires
converse-requires g c = record {
  whole = record {
    source = digest_whole c.digest_of.result c.as_slice.result.now c.digest_of.ensures;
    input = digest_whole c.digest_of-2.result c.as_slice-2.result.now c.digest_of-2.ensures;
    saved = c.requires.supplied.whole;
  };
}

pub returns-in-Ok-clause-gone : goal.returns-in-Ok-clause-gone
returns-in-Ok-clause-gone g c =
    let before : Outside = outside (g.K.Keeper.files c.args.keeper.now) (g.K.Keeper.counts c.args.keeper.now) (g.I.Source.left c.args.console.now)
    (g.O.Printer.given c.args.screen.now) in
    let after : Outside = outside (g.K.Keeper.files c.converse.new.keeper) (g.K.Keeper.counts c.converse.new.keeper) (g.I.Source.left c.converse.new.console)
    (g.O.Printer.given c.converse.new.screen) in
    let s = c.args.supplied in
    let is = c.requires.supplied in
    let r : Requested = requested_by c.args.request.now in
    let b : Begun r before.files = record {
      run = record {
        source = record { bytes = s.source; fetched = is.source; tokens = s.program.tokens; rows = s.program.program; program = is.program };
        input = s.input;
        is_input = is.input;
      };
      saved = s.saved;
      is_saved = is.saved;
    } in
    let begins : Start = record { source = c.digest_of.result; input = c.digest_of-2.result; budget = r.budget; saved = s.saved } in
    let source = c.digest_of.ensures ∙ ap sha256 c.as_slice.ensures in
    let input = c.digest_of-2.ensures ∙ ap sha256 c.as_slice-2.ensures in
    let same : begins ≡ start_in b = λ i. record { source = source i; input = input i; budget = r.budget; saved = s.saved } in
    let run : List ℕ → Execution = λ x. execution_of s.program.tokens s.program.program (record { input = x; budget = r.budget }) in
    let kept = c.in-Ok.ensures.kept ∙ ap run c.as_slice-3.ensures in
    let ran = subst (λ (h : Execution). Went IsReading (subject_of h) begins before c.converse.result after) kept c.converse.ensures.goes in
    let went = subst (λ (s' : Start). Went IsReading (subject_of (run s.input)) s' before c.converse.result after) same ran in
    record {
      goes = subst (Goes (Some (Source r)) before after) (sym c.status_of.ensures)
          (talk_goes r before after b c.is_whole.ensures.whole c.converse.result went);
    }

pub returns-in-Ok-clause-console_faults : goal.returns-in-Ok-clause-console_faults
returns-in-Ok-clause-console_faults g c =
    subst (λ (b : Bool). Counted b (g.I.Source.faults c.args.console.now) (g.I.Source.faults c.converse.new.console))
    (console_by_end c.converse.result ∙ ap is_console (sym c.status_of.ensures)) c.converse.ensures.console_faults

pub returns-in-Ok-clause-screen_faults : goal.returns-in-Ok-clause-screen_faults
returns-in-Ok-clause-screen_faults g c =
    subst (λ (b : Bool). Counted b (g.O.Printer.faults c.args.screen.now) (g.O.Printer.faults c.converse.new.screen))
    (screen_by_end c.converse.result ∙ ap is_screen (sym c.status_of.ensures)) c.converse.ensures.screen_faults

pub returns-in-Ok-clause-last : goal.returns-in-Ok-clause-last
returns-in-Ok-clause-last g c = λ failed.
    c.converse.ensures.last (screen_by_end c.converse.result ∙ ap is_screen (sym c.status_of.ensures) ∙ failed)

pub returns-clause-gone : goal.returns-clause-gone
returns-clause-gone g c = record { goes = inl (record { given = refl; counts = inl refl; alone = record { files = refl; left = refl } }) }
