use Rattle.std.proofs.Common.{◌∙◌, ◌≡◌, ◌≤◌, None, ap, arith, false, length, replicate, rules, sym}
use Rattle.std.proofs.lemmas.List.{length-map}
use Rattle.call_tree.specs.{Recording.routines_of, declared.records.Call.Call}
use Rattle.answer_book.proofs.{LinksHold.new_are_linked, NewLemmas.empty_is_kept}
use Rattle.answer_book.proofs.book.Book.empty.Goals as goal
use Rattle.answer_book.specs.declared.entry_links.Subject.TheVariants as subject

pub invariant_of-result : goal.invariant_of-result
invariant_of-result c =
    let run = c.args.calls.now in
    let long = length-map run.calls (λ (call : Call). call.routine) in
    let few : length (routines_of run.calls) ≤ 500000 = omega (arith, c.are_numbered.ensures.few) in
    let judged : c.in_ok-judged.judged ≡ replicate (length (routines_of run.calls)) None =
    c.in_ok-judged.ensures ∙ ap (λ n. replicate n None) (c.len.ensures ∙ sym long) in
    let trusted : c.in_ok-trusted.trusted.items ≡ replicate run.routines false =
    (let all : c.in_ok-trusted.trusted.items ≡ replicate c.routines.result false = search rules in all) ∙ ap (λ n. replicate n false) c.routines.ensures in
    let calls : c.len-2.result ≡ length (routines_of run.calls) = c.len-2.ensures ∙ sym long in
    rw (c.of.ensures, c.in_ok-entries.ensures, c.in_ok-by_call.ensures, c.in_ok-by_routine.ensures, c.in_ok-all.ensures, calls, c.routines-2.ensures)
    (record {
      columns = empty_is_kept run c.in_ok-judged.judged c.in_ok-trusted.trusted.items few c.are_numbered.ensures.known judged trusted;
      by_call = new_are_linked subject.Call (length (routines_of run.calls));
      by_routine = new_are_linked subject.Routine run.routines;
      all = new_are_linked subject.Any 1;
    })
