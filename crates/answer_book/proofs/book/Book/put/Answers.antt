use Rattle.std.proofs.Common.{◌<◌, arith, length}
use Rattle.answer_book.proofs.{MarkLemmas.judged_length, MarkLemmas.trusted_length, NewLemmas.judgement_put, NewLemmas.taken_back_put, NewLemmas.trust_put}
use Rattle.answer_book.proofs.LinksHold.{call_inside, chain_inside, one_inside, routine_inside, with_are_linked}
use Rattle.answer_book.proofs.book.Book.put.Goals as goal
use Rattle.answer_book.specs.{InRange.IsInRange, Kept.answers_of}
use Rattle.answer_book.specs.declared.entry_links.Subject.TheVariants.{Any, Call, Routine}

pub link-requires-clause-room : goal.link-requires-clause-room
link-requires-clause-room c =
    let room : length c.self.inside.entries < 100000 = rw (← c.self.view_is) at c.requires.room in
    omega (arith, room, c.self.invariant.by_call.linked.each)

pub link-requires-clause-a_chain : goal.link-requires-clause-a_chain
link-requires-clause-a_chain c =
    let book = answers_of c.self.inside in
    let named : IsInRange (length book.routine) book.routines c.args.entry.what = rw (← c.self.view_is) at c.requires.named in
    chain_inside Call (length book.routine) c.self.inside.entries c.self.inside.by_call c.args.entry.what
    (call_inside (length book.routine) book.routines c.args.entry.what named) c.self.invariant.by_call

pub link-requires-2-clause-room : goal.link-requires-2-clause-room
link-requires-2-clause-room c =
    let room : length c.self.inside.entries < 100000 = rw (← c.self.view_is) at c.requires.room in
    omega (arith, room, c.self.invariant.by_routine.linked.each)

pub link-requires-2-clause-a_chain : goal.link-requires-2-clause-a_chain
link-requires-2-clause-a_chain c =
    let book = answers_of c.self.inside in
    let named : IsInRange (length book.routine) book.routines c.args.entry.what = rw (← c.self.view_is) at c.requires.named in
    chain_inside Routine book.routines c.self.inside.entries c.self.inside.by_routine c.args.entry.what
    (routine_inside (length book.routine) book.routines c.args.entry.what named) c.self.invariant.by_routine

pub link-requires-3-clause-room : goal.link-requires-3-clause-room
link-requires-3-clause-room c =
    let room : length c.self.inside.entries < 100000 = rw (← c.self.view_is) at c.requires.room in
    omega (arith, room, c.self.invariant.all.linked.each)

pub link-requires-3-clause-a_chain : goal.link-requires-3-clause-a_chain
link-requires-3-clause-a_chain c =
    let book = answers_of c.self.inside in
    chain_inside Any 1 c.self.inside.entries c.self.inside.all c.args.entry.what
    (one_inside c.args.entry.what) c.self.invariant.all

pub set-requires : goal.set-requires
set-requires c =
    let book = answers_of c.self.inside in
    let inside : c.in-Judged.call < length book.routine = rw (c.in-Judged.is, ← c.self.view_is) at c.requires.named in
    let long = judged_length book c.self.inside.judged c.self.inside.trusted.items c.self.invariant.columns in
    record { a_call = omega arith }

pub invariant_of-self : goal.invariant_of-self
invariant_of-self c =
    let book = answers_of c.self.inside in
    let named : IsInRange (length book.routine) book.routines c.args.entry.what = rw (← c.self.view_is) at c.requires.named in
    let inside : c.in-Judged.call < length book.routine = rw (c.in-Judged.is, ← c.self.view_is) at c.requires.named in
    rw (c.put.ensures, c.set.ensures, c.link.ensures, c.link-2.ensures, c.link-3.ensures)
    (record {
      columns = judgement_put book c.self.inside.judged c.self.inside.trusted.items c.args.entry c.in-Judged.call c.in-Judged.judgement c.if-entry.true
          c.in-Judged.is inside c.self.invariant.columns;
      by_call = with_are_linked Call (length book.routine) c.self.inside.entries c.self.inside.by_call c.args.entry
          (call_inside (length book.routine) book.routines c.args.entry.what named) c.self.invariant.by_call;
      by_routine = with_are_linked Routine book.routines c.self.inside.entries c.self.inside.by_routine c.args.entry
          (routine_inside (length book.routine) book.routines c.args.entry.what named) c.self.invariant.by_routine;
      all = with_are_linked Any 1 c.self.inside.entries c.self.inside.all c.args.entry (one_inside c.args.entry.what) c.self.invariant.all;
    })

pub index_mut-requires : goal.index_mut-requires
index_mut-requires c =
    let book = answers_of c.self.inside in
    let inside : c.in-Trusted.routine < book.routines = rw (c.in-Trusted.is, ← c.self.view_is) at c.requires.named in
    let long = trusted_length book c.self.inside.judged c.self.inside.trusted.items c.self.invariant.columns in
    omega (arith, c.self.inside.trusted.ok.0)

pub invariant_of-self-in-Trusted : goal.invariant_of-self-in-Trusted
invariant_of-self-in-Trusted c =
    let book = answers_of c.self.inside in
    let named : IsInRange (length book.routine) book.routines c.args.entry.what = rw (← c.self.view_is) at c.requires.named in
    let inside : c.in-Trusted.routine < book.routines = rw (c.in-Trusted.is, ← c.self.view_is) at c.requires.named in
    rw (c.put.ensures, c.link.ensures, c.link-2.ensures, c.link-3.ensures)
    (record {
      columns = trust_put book c.self.inside.judged c.self.inside.trusted.items c.args.entry c.in-Trusted.routine c.if-entry.true c.in-Trusted.is inside
          c.self.invariant.columns;
      by_call = with_are_linked Call (length book.routine) c.self.inside.entries c.self.inside.by_call c.args.entry
          (call_inside (length book.routine) book.routines c.args.entry.what named) c.self.invariant.by_call;
      by_routine = with_are_linked Routine book.routines c.self.inside.entries c.self.inside.by_routine c.args.entry
          (routine_inside (length book.routine) book.routines c.args.entry.what named) c.self.invariant.by_routine;
      all = with_are_linked Any 1 c.self.inside.entries c.self.inside.all c.args.entry (one_inside c.args.entry.what) c.self.invariant.all;
    })

pub invariant_of-self-else-entry : goal.invariant_of-self-else-entry
invariant_of-self-else-entry c =
    let book = answers_of c.self.inside in
    let named : IsInRange (length book.routine) book.routines c.args.entry.what = rw (← c.self.view_is) at c.requires.named in
    rw (c.put.ensures, c.link.ensures, c.link-2.ensures, c.link-3.ensures)
    (record {
      columns = taken_back_put book c.self.inside.judged c.self.inside.trusted.items c.args.entry c.if-entry.false named c.self.invariant.columns;
      by_call = with_are_linked Call (length book.routine) c.self.inside.entries c.self.inside.by_call c.args.entry
          (call_inside (length book.routine) book.routines c.args.entry.what named) c.self.invariant.by_call;
      by_routine = with_are_linked Routine book.routines c.self.inside.entries c.self.inside.by_routine c.args.entry
          (routine_inside (length book.routine) book.routines c.args.entry.what named) c.self.invariant.by_routine;
      all = with_are_linked Any 1 c.self.inside.entries c.self.inside.all c.args.entry (one_inside c.args.entry.what) c.self.invariant.all;
    })
