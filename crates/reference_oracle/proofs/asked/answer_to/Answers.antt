use Rattle.std.proofs.Common.{◌∙◌, ◌≡◌, ap, map, subst, sym}
use Rattle.std.specs.FinMap.{empty}
use Rattle.core_program.specs.Blocks.{filled}
use Rattle.program_run.specs.{CalledFrom.CanBeCalled, CalledFrom.call_from, CalledFrom.state_from, History.output_of, History.recording_of}
use Rattle.reference_oracle.proofs.{EntriesGiven.args_are, EntriesGiven.entry_is, ReferencesAsked.can_be_asked}
use Rattle.reference_oracle.proofs.asked.answer_to.Goals as goal
use Rattle.reference_oracle.specs.{Answers.reference_answer, Asking.args_by, Asking.frame_by, Asking.side_for, Fitting.asked, Matches.turned, Places.ArePlaces}

pub run_from-requires-clause-able : goal.run_from-requires-clause-able
run_from-requires-clause-able c =
    let w = c.requires.fits in
    let p = w.0 in
    let d = w.1 in
    let k = w.2 in
    let f = w.3 in
    let reference = c.args.reference.now in
    let budget = c.args.run.now.budget in
    let store = c.args.row.now.entry.store in
    let back = c.in_ok-back.back.items in
    let frame = c.frame-frame.ensures in
    let there = subst (λ ms. ArePlaces ms back) (c.deref-2.ensures.value ∙ c.in_ok-turned.ensures ∙ ap (map turned) (c.deref.ensures.value ∙ f.matched))
    c.in_ok-back.ensures in
    let side = c.in_ok-entry.ensures
    ∙ (λ i. side_for (filled 0 (frame_by store (c.deref-3.ensures.value i) (frame i)) empty) (frame i) budget) in
    subst (CanBeCalled reference c.args.fit.now.routine)
    (sym (entry_is (asked p reference d budget) k back there c.in_ok-entry.entry side c.in_ok-input.input c.in_ok-input.ensures))
    (can_be_asked (asked p reference d budget) c.args.fit.now.routine f.fits)

pub returns : goal.returns
returns c p d k f =
    let reference = c.args.reference.now in
    let budget = c.args.run.now.budget in
    let store = c.args.row.now.entry.store in
    let back = c.in_ok-back.back.items in
    let frame = c.frame-frame.ensures in
    let there = subst (λ ms. ArePlaces ms back) (c.deref-2.ensures.value ∙ c.in_ok-turned.ensures ∙ ap (map turned) (c.deref.ensures.value ∙ f.matched))
    c.in_ok-back.ensures in
    let side = c.in_ok-entry.ensures
    ∙ (λ i. side_for (filled 0 (frame_by store (c.deref-3.ensures.value i) (frame i)) empty) (frame i) budget) in
    let entry = entry_is (asked p reference d budget) k back there c.in_ok-entry.entry side c.in_ok-input.input c.in_ok-input.ensures in
    let args = c.in_ok-args.ensures ∙ ap (λ ps. args_by ps c.args.row.now.args) c.deref-4.ensures.value
    ∙ args_are (asked p reference d budget) k c.args.fit.now.places.items f.places in
    let call : call_from reference c.args.fit.now.routine c.in_ok-args.args (state_from c.in_ok-entry.entry 1 c.in_ok-input.input)
    ≡ reference_answer (asked p reference d budget) c.args.fit.now.routine =
    λ i. call_from reference c.args.fit.now.routine (args i) (entry i) in
    record {
      calls = c.in_ok-answer.ensures.calls ∙ ap (recording_of reference) call;
      output = c.in_ok-answer.ensures.output ∙ ap output_of call;
    }
