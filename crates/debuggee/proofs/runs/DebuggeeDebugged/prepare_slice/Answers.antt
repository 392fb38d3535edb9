use Rattle.std.proofs.Common.{◌∙◌, IfOk, None, Some, subst, sym}
use Rattle.dialog_replies.specs.Prepared.{IsSliceOf}
use Rattle.dialog_replies.specs.declared.slices.SliceOf.TheVariants as slices
use Rattle.debuggee.proofs.SlicesOfRuns.{told_named}
use Rattle.debuggee.proofs.runs.DebuggeeDebugged.prepare_slice.Goals as goal
use Rattle.debuggee.specs.{Execution.execution, Prepared.prepared_of}

pub returns-in-Some : goal.returns-in-Some
returns-in-Some c =
    let h = execution c.args.self.now in
    subst (λ told. IfOk c.slice_of.result (IsSliceOf (prepared_of h) c.args.call told))
    (told_named h c.args.call c.args.name.now (Some c.in-Some.output) (sym c.in-Some.is ∙ c.in_ok-output.ensures)) c.slice_of.ensures

pub returns-in-None : goal.returns-in-None
returns-in-None c =
    let h = execution c.args.self.now in
    subst (λ told. IsSliceOf (prepared_of h) c.args.call told slices.NoOutput)
    (told_named h c.args.call c.args.name.now None (sym c.in-None.is ∙ c.in_ok-output.ensures)) tt
