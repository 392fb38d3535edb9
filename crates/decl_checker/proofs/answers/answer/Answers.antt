use Rattle.std.proofs.Common.{◌∙◌, sym}
use Rattle.decl_checker.proofs.Early.{early_fault, early_none, found, nothing, without}
use Rattle.decl_checker.proofs.answers.answer.Goals as goal

pub returns-then-is_early-clause-fault : goal.returns-then-is_early-clause-fault
returns-then-is_early-clause-fault c = λ bs known.
    early_fault bs c.in-Some.first c.fault.result (found bs c.args.work.least c.in-Some.first known c.in-Some.is)
    (sym c.is_early.ensures ∙ c.if-is_early.true) c.fault.ensures

pub returns-in_ok-new-in-Some-clause-unbroken : goal.returns-in_ok-new-in-Some-clause-unbroken
returns-in_ok-new-in-Some-clause-unbroken c = λ bs known.
    early_none bs c.in-Some.first (found bs c.args.work.least c.in-Some.first known c.in-Some.is) (sym c.is_early.ensures ∙ c.if-is_early.false)

pub returns-in_ok-new-in-None-clause-unbroken : goal.returns-in_ok-new-in-None-clause-unbroken
returns-in_ok-new-in-None-clause-unbroken c = λ bs known. without bs (nothing bs c.args.work.least known c.in-None.is)
