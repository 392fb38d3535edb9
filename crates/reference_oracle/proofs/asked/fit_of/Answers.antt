use Rattle.std.proofs.Common.{◌&&◌, ◌∙◌, ap, subst, sym}
use Rattle.reference_oracle.proofs.RowsFit.{fits_so, unfit_by_test}
use Rattle.reference_oracle.proofs.asked.fit_of.Goals as goal
use Rattle.reference_oracle.specs.{Fitting.asked, Kept.has_room, Kept.worked_within, Places.ArePlaces}

pub returns-then-not-can_answer : goal.returns-then-not-can_answer
returns-then-not-can_answer c d k =
    let reference = c.args.reference.now in
    let a = asked c.args.program.now reference d c.args.run.now.budget in
    let routine = c.in-Some.routine in
    let places = c.in_ok-places.places.items in
    let found = c.in_ok-found.found in
    let by = sym c.in_ok-routine.ensures.found ∙ c.in-Some.is in
    let are = subst (λ ms. ArePlaces ms places) (c.deref.ensures.value ∙ c.in_ok-matches.ensures) c.in_ok-places.ensures in
    let test = sym (ap (λ ps. worked_within ps c.args.row.now.args found && has_room reference routine) c.deref-2.ensures.value)
    ∙ sym c.can_answer.ensures in
    unfit_by_test a k places are found c.in_ok-found.ensures routine by (test ∙ c.if-not-can_answer.true)

pub returns : goal.returns
returns c d k =
    let reference = c.args.reference.now in
    let a = asked c.args.program.now reference d c.args.run.now.budget in
    let routine = c.in-Some.routine in
    let places = c.in_ok-places.places.items in
    let found = c.in_ok-found.found in
    let by = sym c.in_ok-routine.ensures.found ∙ c.in-Some.is in
    let way = sym c.returned_or_faulted.ensures ∙ c.if-not-returned_or_faulted.false in
    let are = subst (λ ms. ArePlaces ms places) (c.deref.ensures.value ∙ c.in_ok-matches.ensures) c.in_ok-places.ensures in
    let test = sym (ap (λ ps. worked_within ps c.args.row.now.args found && has_room reference routine) c.deref-2.ensures.value)
    ∙ sym c.can_answer.ensures in
    record {
      fits = fits_so a k places are found c.in_ok-found.ensures routine way by (test ∙ c.if-not-can_answer.false);
      matched = c.in_ok-matches.ensures;
      places = are;
      found = c.in_ok-found.ensures;
    }
