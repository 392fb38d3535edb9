use Rattle.std.proofs.Common.{◌∙◌, sym}
use Rattle.reference_oracle.proofs.HeadingsCompared.{headings_agree, headings_differ, namesake_gone, no_namesake, no_routine}
use Rattle.reference_oracle.proofs.headings.counterpart.Goals as goal
use Rattle.reference_oracle.specs.Shapes.{programs}

pub returns-in_default-clause-found : goal.returns-in_default-clause-found
returns-in_default-clause-found c =
    no_routine (programs c.args.subject.now c.args.reference.now) c.args.routine (sym c.routine.ensures ∙ c.in_default.is)

pub returns-in_default-namesake_of-clause-found : goal.returns-in_default-namesake_of-clause-found
returns-in_default-namesake_of-clause-found c =
    no_namesake (programs c.args.subject.now c.args.reference.now) c.args.routine c.in-Some.asked (sym c.in-Some.ensures)
    c.namesake_of.result c.namesake_of.ensures c.in_default-namesake_of.is

pub returns-in_default-routine-clause-found : goal.returns-in_default-routine-clause-found
returns-in_default-routine-clause-found c =
    namesake_gone (programs c.args.subject.now c.args.reference.now) c.args.routine c.in-Some.asked (sym c.in-Some.ensures)
    c.namesake_of.result c.namesake_of.ensures c.in-Some-namesake_of.number c.in-Some-namesake_of.is (sym c.routine-2.ensures ∙ c.in_default-routine.is)

pub returns-then-branch-clause-found : goal.returns-then-branch-clause-found
returns-then-branch-clause-found c =
    headings_agree (programs c.args.subject.now c.args.reference.now) c.args.routine c.in-Some.asked (sym c.in-Some.ensures)
    c.namesake_of.result c.namesake_of.ensures c.in-Some-namesake_of.number c.in-Some-namesake_of.is c.in-Some-routine.other
    (sym c.in-Some-routine.ensures) c.in_ok-same_signatures.field-0 c.in_ok-same_signatures.ensures.same c.if-branch.true

pub returns-else-branch-clause-found : goal.returns-else-branch-clause-found
returns-else-branch-clause-found c =
    headings_differ (programs c.args.subject.now c.args.reference.now) c.args.routine c.in-Some.asked (sym c.in-Some.ensures)
    c.namesake_of.result c.namesake_of.ensures c.in-Some-namesake_of.number c.in-Some-namesake_of.is c.in-Some-routine.other
    (sym c.in-Some-routine.ensures) c.in_ok-same_signatures.field-0 c.in_ok-same_signatures.ensures.same c.if-branch.false
