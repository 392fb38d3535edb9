use Rattle.std.proofs.Common.{◌<◌, ◌∙◌, Err, refl, subst, sym}
use Rattle.output_slice.specs.{Slices.AnswersSlice, Slices.Asked, Slices.most_touches, Touches.touches_below, declared.slices.SliceFault.SliceFault}
use Rattle.dialog_replies.specs.Prepared.{IsSliceOf}
use Rattle.dialog_replies.specs.declared.slices.SliceOf.TheVariants as slices
use Rattle.debuggee.proofs.SlicesOfRuns.{call_of, slice_for, told_none, told_slice, told_too_many}
use Rattle.debuggee.proofs.TracesAreOfBodies.{is_of_run}
use Rattle.debuggee.proofs.runs.Debuggee.slice_of.Goals as goal
use Rattle.debuggee.specs.{Execution.execution, Prepared.prepared_of}

pub returns-then-not-has : goal.returns-then-not-has
returns-then-not-has c =
    let d = c.args.self.now in
    let k = call_of c.is_whole.ensures.whole d.short (is_of_run d.ran) d.few_steps c.requires in
    let has = c.in_ok-has.ensures d.input.now d.short (is_of_run d.ran) k.result k.run_is k.entry k.of_call in
    subst (λ told. IsSliceOf (prepared_of (execution d)) c.args.call told slices.NoOutput)
    (sym (told_none (execution d) k.result k.run_is c.args.call k.entry k.of_call c.args.output (sym has ∙ c.if-not-has.true))) tt

pub returns-in-Ok : goal.returns-in-Ok
returns-in-Ok c =
    let d = c.args.self.now in
    let k = call_of c.is_whole.ensures.whole d.short (is_of_run d.ran) d.few_steps c.requires in
    let slice = c.in-Ok.slicing in
    let a = c.in-Ok.ensures.answer d.input.now d.short (is_of_run d.ran) k.result k.run_is k.entry k.of_call in
    subst (λ told. IsSliceOf (prepared_of (execution d)) c.args.call told (slices.Slice slice))
    (sym (told_slice (execution d) k.result k.run_is c.args.call k.entry k.of_call c.args.output a.1 a.0 slice.pairs a.2))
    (slice_for (execution d) k.result c.args.call c.args.output slice a.2 c.in-Ok.ensures.of_run, refl)

pub returns-in-Err-NoOutput : goal.returns-in-Err-NoOutput
returns-in-Err-NoOutput c =
    let d = c.args.self.now in
    let k = call_of c.is_whole.ensures.whole d.short (is_of_run d.ran) d.few_steps c.requires in
    let asked : Asked = record { run = k.result; call = c.args.call; entry = k.entry; output = c.args.output } in
    let a = subst (λ (fault : SliceFault). AnswersSlice (touches_below d.history.calls.calls c.args.call k.entry.event.below) asked (Err fault))
    c.in-Err-NoOutput.field-0-is
    (c.in-Err-NoOutput.ensures.answer d.input.now d.short (is_of_run d.ran) k.result k.run_is k.entry k.of_call) in
    subst (λ told. IsSliceOf (prepared_of (execution d)) c.args.call told slices.NoOutput)
    (sym (told_none (execution d) k.result k.run_is c.args.call k.entry k.of_call c.args.output a.1)) tt

pub returns-in-Err-TooMany : goal.returns-in-Err-TooMany
returns-in-Err-TooMany c =
    let d = c.args.self.now in
    let k = call_of c.is_whole.ensures.whole d.short (is_of_run d.ran) d.few_steps c.requires in
    let asked : Asked = record { run = k.result; call = c.args.call; entry = k.entry; output = c.args.output } in
    let has = c.in_ok-has.ensures d.input.now d.short (is_of_run d.ran) k.result k.run_is k.entry k.of_call in
    let a = subst (λ (fault : SliceFault). AnswersSlice (touches_below d.history.calls.calls c.args.call k.entry.event.below) asked (Err fault))
    c.in-Err-TooMany.field-0-is
    (c.in-Err-TooMany.ensures.answer d.input.now d.short (is_of_run d.ran) k.result k.run_is k.entry k.of_call) in
    subst (λ told. IsSliceOf (prepared_of (execution d)) c.args.call told slices.TooMany)
    (sym (told_too_many (execution d) k.result k.run_is c.args.call k.entry k.of_call c.args.output (sym has ∙ c.if-not-has.false)
    (subst (λ n. most_touches < n) a.0 a.1))) tt
