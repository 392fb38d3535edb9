use Rattle.std.proofs.Common.{◌++◌, ◌∙◌, ◌≡◌, ℕ, List, None, Some, ap, filter, find, refl, sym}
use Rattle.std.specs.List.{flat_map}
use Rattle.optimal_query.specs.Region.{is_after}
use Rattle.dialog_replies.proofs.{LinesInTurn.all_written, LinesInTurn.line_written, LinesInTurn.shorter, NamedCalls.all_rise, NamedCalls.next_of_doubts}
use Rattle.dialog_replies.proofs.RisingCalls.{all_after_none, found_within, next_is, none_is}
use Rattle.dialog_replies.proofs.reply.print_doubts.Goals as goal
use Rattle.dialog_replies.specs.{Subject.calls_recorded, Subject.doubts_after, Texts.doubt_line, Texts.doubt_lines}

pub doubts-init : goal.doubts-init
doubts-init g c =
    let s = g.D.Debugged.subject c.args.run.now in
    let out = (g.P.Printer.printout c.args.out.now).text in
    record { written = (ap (λ (ns : List ℕ). out ++ flat_map (doubt_line s) ns) (all_after_none (doubts_after s c.args.debug.now.book.entries)), refl) }

pub print_doubt-requires : goal.print_doubt-requires
print_doubt-requires g c =
    let s = g.D.Debugged.subject c.args.run.now in
    let ds = doubts_after s c.args.debug.now.book.entries in
    let found : find (is_after c.doubts.last) ds ≡ Some c.in-Some.doubt =
    sym (next_of_doubts s c.args.debug.now c.doubts.last c.requires) ∙ sym c.next_unknown.ensures ∙ c.in-Some.is in
    (found_within (is_after c.doubts.last) 0 (calls_recorded s) ds c.in-Some.doubt (all_rise s c.args.debug.now.book.entries) found).1

pub doubts-smaller : goal.doubts-smaller
doubts-smaller g c =
    let s = g.D.Debugged.subject c.args.run.now in
    let ds = doubts_after s c.args.debug.now.book.entries in
    let found : find (is_after c.doubts.last) ds ≡ Some c.in-Some.doubt =
    sym (next_of_doubts s c.args.debug.now c.doubts.last c.requires) ∙ sym c.next_unknown.ensures ∙ c.in-Some.is in
    shorter (filter (is_after c.doubts.last) ds) (filter (is_after (Some c.in-Some.doubt)) ds) c.in-Some.doubt
    (next_is c.doubts.last 0 (calls_recorded s) ds c.in-Some.doubt (all_rise s c.args.debug.now.book.entries) found)

pub doubts-preserved : goal.doubts-preserved
doubts-preserved g c =
    let s = g.D.Debugged.subject c.args.run.now in
    let entries = c.args.debug.now.book.entries in
    let ds = doubts_after s entries in
    let found : find (is_after c.doubts.last) ds ≡ Some c.in-Some.doubt =
    sym (next_of_doubts s c.args.debug.now c.doubts.last c.requires) ∙ sym c.next_unknown.ensures ∙ c.in-Some.is in
    let printout = g.P.Printer.printout in
    record {
      written = (
        line_written (doubt_line s) (printout c.doubts.out).text (printout c.print_doubt.new.out).text
            ((printout c.args.out.now).text ++ doubt_lines s entries) c.in-Some.doubt
            (filter (is_after c.doubts.last) ds) (filter (is_after (Some c.in-Some.doubt)) ds)
            (next_is c.doubts.last 0 (calls_recorded s) ds c.in-Some.doubt (all_rise s entries) found) c.print_doubt.ensures.0
            c.doubts.invariant.written.0,
        c.print_doubt.ensures.1 ∙ c.doubts.invariant.written.1,
      );
    }

pub returns-in-None : goal.returns-in-None
returns-in-None g c =
    let s = g.D.Debugged.subject c.args.run.now in
    let entries = c.args.debug.now.book.entries in
    let ds = doubts_after s entries in
    let none : find (is_after c.doubts.last) ds ≡ None =
    sym (next_of_doubts s c.args.debug.now c.doubts.last c.requires) ∙ sym c.next_unknown.ensures ∙ c.in-None.is in
    let printout = g.P.Printer.printout in (
      all_written (doubt_line s) (printout c.doubts.out).text ((printout c.args.out.now).text ++ doubt_lines s entries) (filter (is_after c.doubts.last) ds)
          (none_is (is_after c.doubts.last) ds none) c.doubts.invariant.written.0,
      c.doubts.invariant.written.1,
    )
