use Rattle.std.proofs.Common.{◌<◌, arith, length, subst}
use Rattle.answer_book.proofs.{LastByLinks.judgement_by_links, LastByLinks.trust_by_links, MarkLemmas.judged_length, MarkLemmas.trusted_length}
use Rattle.answer_book.proofs.LinksHold.{found_are_linked, withdrawn_are_linked}
use Rattle.answer_book.proofs.WithdrawnLemmas.{entry_is_withdrawn, judgement_is_withdrawn, named_before, trust_is_withdrawn}
use Rattle.answer_book.proofs.book.Book.withdraw.Goals as goal
use Rattle.answer_book.specs.{Entries.entries_without, Kept.answers_of, Links.IsLastOn}
use Rattle.answer_book.specs.declared.entries.What.{What, TheVariants.Judged, TheVariants.Trusted}
use Rattle.answer_book.specs.declared.entry_links.Subject.TheVariants.{Any, Call, Routine}

pub last-last-requires-clause-linked : goal.last-last-requires-clause-linked
last-last-requires-clause-linked c =
    let book = answers_of c.self.inside in
    let what : What = Judged c.in-Judged.call c.in-Judged.field-1 in
    let w = entry_is_withdrawn book.entries c.args.number what c.in-Judged.ensures.what in
    let by = withdrawn_are_linked Call (length book.routine) book.entries _ c.self.inside.by_call _ what w c.self.invariant.by_call in
    rw c.in-Judged.ensures.taken_back by.linked

pub last-last-requires-clause-a_chain : goal.last-last-requires-clause-a_chain
last-last-requires-clause-a_chain c =
    let book = answers_of c.self.inside in
    let what : What = Judged c.in-Judged.call c.in-Judged.field-1 in
    let w = entry_is_withdrawn book.entries c.args.number what c.in-Judged.ensures.what in
    let named : c.in-Judged.call < length book.routine =
    named_before (length book.routine) book.routines book.entries _ _ what w c.self.invariant.columns.named in
    omega (arith, named, c.self.invariant.by_call.chains)

pub set-requires : goal.set-requires
set-requires c =
    let book = answers_of c.self.inside in
    let what : What = Judged c.in-Judged.call c.in-Judged.field-1 in
    let w = entry_is_withdrawn book.entries c.args.number what c.in-Judged.ensures.what in
    let named : c.in-Judged.call < length book.routine =
    named_before (length book.routine) book.routines book.entries _ _ what w c.self.invariant.columns.named in
    let long = judged_length book c.self.inside.judged c.self.inside.trusted.items c.self.invariant.columns in
    record { a_call = omega arith }

pub invariant_of-self : goal.invariant_of-self
invariant_of-self c =
    let book = answers_of c.self.inside in
    let what : What = Judged c.in-Judged.call c.in-Judged.field-1 in
    let after = entries_without book.entries c.args.number in
    let w = entry_is_withdrawn book.entries c.args.number what c.in-Judged.ensures.what in
    let named : c.in-Judged.call < length book.routine =
    named_before (length book.routine) book.routines book.entries _ _ what w c.self.invariant.columns.named in
    let by = withdrawn_are_linked Call (length book.routine) book.entries _ c.self.inside.by_call _ what w c.self.invariant.by_call in
    let found : IsLastOn c.self.inside.by_call.subject after c.in-Judged.call c.last-last.result =
    rw c.in-Judged.ensures.taken_back at c.last-last.ensures.last in
    let last = subst (λ s. IsLastOn s after c.in-Judged.call c.last-last.result) c.self.invariant.by_call.subject found in
    rw (
      c.set.ensures,
      c.judgement-judgement.ensures,
      c.last-last.ensures.found,
      c.in-Judged.ensures.taken_back,
      judgement_by_links after c.in-Judged.call c.last-last.result last,
    )
    (record {
      columns =
          judgement_is_withdrawn book _ c.self.inside.judged c.self.inside.trusted.items _ c.in-Judged.call c.in-Judged.field-1 w
          c.self.invariant.columns;
      by_call =
          found_are_linked Call (length book.routine) after c.self.inside.by_call c.in-Judged.call c.last-last.result by
          (omega (arith, named, c.self.invariant.by_call.chains)) found.leads;
      by_routine = withdrawn_are_linked Routine book.routines book.entries _ c.self.inside.by_routine _ what w c.self.invariant.by_routine;
      all = withdrawn_are_linked Any 1 book.entries _ c.self.inside.all _ what w c.self.invariant.all;
    })

pub last-last-requires-in-Trusted-clause-linked : goal.last-last-requires-in-Trusted-clause-linked
last-last-requires-in-Trusted-clause-linked c =
    let book = answers_of c.self.inside in
    let what : What = Trusted c.in-Trusted.routine in
    let w = entry_is_withdrawn book.entries c.args.number what c.in-Trusted.ensures.what in
    let by = withdrawn_are_linked Routine book.routines book.entries _ c.self.inside.by_routine _ what w c.self.invariant.by_routine in
    rw c.in-Trusted.ensures.taken_back by.linked

pub last-last-requires-in-Trusted-clause-a_chain : goal.last-last-requires-in-Trusted-clause-a_chain
last-last-requires-in-Trusted-clause-a_chain c =
    let book = answers_of c.self.inside in
    let what : What = Trusted c.in-Trusted.routine in
    let w = entry_is_withdrawn book.entries c.args.number what c.in-Trusted.ensures.what in
    let named : c.in-Trusted.routine < book.routines =
    named_before (length book.routine) book.routines book.entries _ _ what w c.self.invariant.columns.named in
    omega (arith, named, c.self.invariant.by_routine.chains)

pub index_mut-requires : goal.index_mut-requires
index_mut-requires c =
    let book = answers_of c.self.inside in
    let what : What = Trusted c.in-Trusted.routine in
    let w = entry_is_withdrawn book.entries c.args.number what c.in-Trusted.ensures.what in
    let named : c.in-Trusted.routine < book.routines =
    named_before (length book.routine) book.routines book.entries _ _ what w c.self.invariant.columns.named in
    let long = trusted_length book c.self.inside.judged c.self.inside.trusted.items c.self.invariant.columns in
    omega (arith, c.self.inside.trusted.ok.0)

pub invariant_of-self-in-Trusted : goal.invariant_of-self-in-Trusted
invariant_of-self-in-Trusted c =
    let book = answers_of c.self.inside in
    let what : What = Trusted c.in-Trusted.routine in
    let after = entries_without book.entries c.args.number in
    let w = entry_is_withdrawn book.entries c.args.number what c.in-Trusted.ensures.what in
    let named : c.in-Trusted.routine < book.routines =
    named_before (length book.routine) book.routines book.entries _ _ what w c.self.invariant.columns.named in
    let by = withdrawn_are_linked Routine book.routines book.entries _ c.self.inside.by_routine _ what w c.self.invariant.by_routine in
    let found : IsLastOn c.self.inside.by_routine.subject after c.in-Trusted.routine c.last-last-in-Trusted.result =
    rw c.in-Trusted.ensures.taken_back at c.last-last-in-Trusted.ensures.last in
    let last = subst (λ s. IsLastOn s after c.in-Trusted.routine c.last-last-in-Trusted.result) c.self.invariant.by_routine.subject found in
    rw (
      c.last-last-in-Trusted.ensures.found,
      c.in-Trusted.ensures.taken_back,
      trust_by_links after c.in-Trusted.routine c.last-last-in-Trusted.result last,
    )
    (record {
      columns = trust_is_withdrawn book _ c.self.inside.judged c.self.inside.trusted.items _ c.in-Trusted.routine w c.self.invariant.columns;
      by_call = withdrawn_are_linked Call (length book.routine) book.entries _ c.self.inside.by_call _ what w c.self.invariant.by_call;
      by_routine =
          found_are_linked Routine book.routines after c.self.inside.by_routine c.in-Trusted.routine c.last-last-in-Trusted.result by
          (omega (arith, named, c.self.invariant.by_routine.chains)) found.leads;
      all = withdrawn_are_linked Any 1 book.entries _ c.self.inside.all _ what w c.self.invariant.all;
    })
