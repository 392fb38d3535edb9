use Rattle.std.proofs.Common.{if◌then◌else◌, ◌+◌, ◌<◌, ◌∙◌, ◌≡◌, ◌≤◌, ℕ, ap, arith, length, refl, sym}
use Rattle.answer_book.specs.{Answers.Answers, Entries.entry_at}
use Rattle.answer_reuse.proofs.{ChangedOnce.most_left, ChangedOnce.paying_more, NumbersPassing.count_up_to}
use Rattle.answer_reuse.proofs.OneByOne.{at_most_one, named_of, taking_later, taking_more}
use Rattle.answer_reuse.proofs.judgements.take_back_each.Goals as goal
use Rattle.answer_reuse.specs.Shared.{judges_in, search_without_one, without_one_steps}

pub entries-init : goal.entries-init
entries-init g c = record {
  taking = record { taken_back = refl; count = refl; before = tt; not_fallen = omega arith; none_taken = λ none. refl };
  paying = record {
    gone = λ k l. ap (λ n. judges_in c.args.classes.now c.args.least (entry_at c.args.debug.now.book.entries n)) (let z : k ≡ 0 = omega arith in z);
    cost = let most = most_left c.args.debug.now.depth c.args.debug.now.book.entries c.args.classes.now c.args.least in omega (arith, most);
  };
}

pub entry-requires-clause-made : goal.entry-requires-clause-made
entry-requires-clause-made g c =
    let later = taking_later c.entries.invariant.taking in
    let many = ap (λ (b : Answers). length b.entries) c.book-in-entries.ensures in
    let first = ap (λ (b : Answers). length b.entries) c.book.ensures in
    omega (arith, later.many, many, first, c.entries-test.true, c.entries-number-end.ensures.number)

pub judges_one-is_one-requires : goal.judges_one-is_one-requires
judges_one-is_one-requires g c =
    let later = taking_later c.entries.invariant.taking in
    record {
      named = named_of (length c.book-in-entries.result.now.routine) (length c.args.classes.now) c.book-in-entries.result.now.routines c.entry.result.what
          (ap (λ (b : Answers). length b.routine) c.book-in-entries.ensures ∙ ap length later.routine ∙ sym c.requires.those_calls) c.entry.ensures.named;
    }

pub overflow_add-taken : goal.overflow_add-taken
overflow_add-taken g c =
    let p = λ (number : ℕ). judges_in c.args.classes.now c.args.least (entry_at c.args.debug.now.book.entries number) in
    let most = count_up_to p c.entries.number in
    let more = at_most_one c.judges_one-is_one.result in
    omega (arith, most, more, c.entries.invariant.taking.count, c.take_back_if-taken.ensures.count, c.entries-test.true, c.entries-number-end.ensures.few)

pub entries-preserved : goal.entries-preserved
entries-preserved g c =
    let p = λ (number : ℕ). judges_in c.args.classes.now c.args.least (entry_at c.args.debug.now.book.entries number) in
    let later = taking_later c.entries.invariant.taking in
    let found = ap (λ (b : Answers). entry_at b.entries c.entries.number) (sym c.book-in-entries.ensures) ∙ c.entry.ensures.found in
    let named = named_of (length c.book-in-entries.result.now.routine) (length c.args.classes.now) c.book-in-entries.result.now.routines c.entry.result.what
    (ap (λ (b : Answers). length b.routine) c.book-in-entries.ensures ∙ ap length later.routine ∙ sym c.requires.those_calls) c.entry.ensures.named in
    let own = c.judges_one-is_one.ensures in
    let is : c.judges_one-is_one.result ≡ p c.entries.number =
    own ∙ ap (judges_in c.args.classes.now c.args.least) (sym found ∙ later.same c.entries.number (omega arith)) in
    record {
      taking = taking_more c.entries.invariant.taking (omega (arith, c.entries.auto.number)) _ _ _
          (c.take_back_if-taken.ensures.taken_back ∙ ap (λ b. search_without_one c.entries.debug b c.entries.number) is)
          (c.take_back_if-taken.ensures.count ∙ ap (λ b. if b then 1 else 0) is)
          c.take_back_if-taken.ensures.not_fallen
          (let e = ap (λ b. without_one_steps c.entries.debug b c.entries.number) is in omega (arith, e, c.take_back_if-taken.ensures.cost));
      paying = paying_more c.entries.invariant.paying later.depth _ _ (omega (arith, c.entries.auto.number)) c.entry.result found named
          (c.take_back_if-taken.ensures.taken_back ∙ ap (λ b. search_without_one c.entries.debug b c.entries.number) own)
          (let e = ap (λ b. without_one_steps c.entries.debug b c.entries.number) own in omega (arith, e, c.take_back_if-taken.ensures.cost))
          c.take_back_if-taken.ensures.mark_stays;
    }
