use Rattle.std.proofs.Common.{if◌then◌else◌, ◌+◌, ◌-◌, ◌∙◌, ◌≡◌, ◌≤◌, ap, arith, length, refl, slice_index, subst}
use Rattle.call_tree.specs.Recording.{lasts_of, parents_of}
use Rattle.answer_book.specs.{Answers.Answers, declared.entries.Judgement.TheVariants.Right, declared.entries.What.TheVariants.Judged}
use Rattle.optimal_query.specs.Search.{search_with}
use Rattle.output_slice.proofs.BuggyStays.{buggy_stays}
use Rattle.output_slice.proofs.LeftOutStays.{WereJudged, all_judged, all_steps, last_inside, last_there, many_routines, next_judged, next_steps, no_steps}
use Rattle.output_slice.proofs.LeftOutStays.{none_judged, room_for_next, routine_stays, sliced_is}
use Rattle.output_slice.proofs.left_out.leave_out.Goals as goal
use Rattle.output_slice.specs.LeftOut.{is_left_out, left_out, left_out_below, steps_on, steps_on_all}

pub count_apart-count-requires-clause-a_call : goal.count_apart-count-requires-clause-a_call
count_apart-count-requires-clause-a_call g c = omega (arith, c.requires.a_call, sliced_is c.args.slice.now.pairs c.pair-call.result c.pair-call.ensures.found)

pub returns-then-entries-count-gt-MOST_ENTRIES-clause-answer : goal.returns-then-entries-count-gt-MOST_ENTRIES-clause-answer
returns-then-entries-count-gt-MOST_ENTRIES-clause-answer g c =
    let pairs = c.args.slice.now.pairs in
    let many = ap (λ n. length (left_out_below c.args.debug.now c.args.calls.now.calls pairs n))
    (sliced_is pairs c.pair-call.result c.pair-call.ensures.found) in
    let book = ap (λ (b : Answers). length b.entries) c.book.ensures in
    (omega (arith, many, book, c.count_apart-count.ensures.many, c.entries.ensures.number, c.if-entries-count-gt-MOST_ENTRIES.true), refl)

pub judge_call-first-requires-clause-a_call : goal.judge_call-first-requires-clause-a_call
judge_call-first-requires-clause-a_call g c =
    let s = sliced_is c.args.slice.now.pairs c.pair-call.result c.pair-call.ensures.found in
    omega (arith, c.requires.a_call, s, many_routines c.args.calls.now.calls c.args.debug.now c.requires.those_calls)

pub overflow_add-below-end : goal.overflow_add-below-end
overflow_add-below-end g c =
    let l = last_inside c.args.calls.now.calls c.are_numbered.ensures.numbered c.pair-call.result.0 c.call-row.result.now c.call-row.ensures.found in
    omega (arith, l.1, c.are_numbered.ensures.few)

pub loop-below-init : goal.loop-below-init
loop-below-init g c =
    let call = c.pair-call.result.0 in
    let z : 0 ≡ (call + 1) - (call + 1) = omega arith in
    let old = c.args.debug.now in
    let parents = parents_of c.args.calls.now.calls in
    let first = c.judge_call-first in
    record {
      were = none_judged old first.new.debug parents c.args.slice.now.pairs call ((call + 1) - (call + 1)) first.result first.ensures.search
          first.ensures.number z;
      not_fallen = first.ensures.not_fallen;
      cost = no_steps old parents c.args.slice.now.pairs call ((call + 1) - (call + 1)) _ _ z first.ensures.cost;
    }

pub is_apart-so-requires-clause-a_call : goal.is_apart-so-requires-clause-a_call
is_apart-so-requires-clause-a_call g c =
    let l = last_inside c.args.calls.now.calls c.are_numbered.ensures.numbered c.pair-call.result.0 c.call-row.result.now c.call-row.ensures.found in
    omega (arith, l.1, c.loop-below-test.true)

pub is_apart-so-requires-clause-those_calls : goal.is_apart-so-requires-clause-those_calls
is_apart-so-requires-clause-those_calls g c = routine_stays c.loop-below.invariant.were ∙ c.requires.those_calls

pub judge_if-last-requires-clause-a_call : goal.judge_if-last-requires-clause-a_call
judge_if-last-requires-clause-a_call g c =
    let l = last_inside c.args.calls.now.calls c.are_numbered.ensures.numbered c.pair-call.result.0 c.call-row.result.now c.call-row.ensures.found in
    let many = many_routines c.args.calls.now.calls c.loop-below.debug (routine_stays c.loop-below.invariant.were ∙ c.requires.those_calls) in
    omega (arith, l.1, c.loop-below-test.true, many)

pub judge_if-last-requires-clause-room : goal.judge_if-last-requires-clause-room
judge_if-last-requires-clause-room g c left =
    let rows = c.args.calls.now.calls in
    let pairs = c.args.slice.now.pairs in
    let call = c.pair-call.result.0 in
    let below = c.loop-below.below in
    let m = below - (call + 1) in
    let at : below ≡ (call + 1) + m = omega (arith, c.loop-below.auto.below) in
    let last = last_there rows call c.call-row.result.now c.call-row.ensures.found in
    let book = ap (λ (b : Answers). length b.entries) c.book.ensures in
    room_for_next c.loop-below.invariant.were c.is_apart-so.result
    (c.is_apart-so.ensures ∙ ap (is_left_out c.loop-below.debug (parents_of rows) pairs) at)
    (slice_index (lasts_of rows) call - call) (omega (arith, last, c.loop-below-test.true, c.loop-below.auto.below))
    (omega (arith, book, c.if-entries-count-gt-MOST_ENTRIES.false, c.count_apart-count.ensures.many, c.entries.ensures.number)) left

pub loop-below-preserved : goal.loop-below-preserved
loop-below-preserved g c =
    let old = c.args.debug.now in
    let parents = parents_of c.args.calls.now.calls in
    let pairs = c.args.slice.now.pairs in
    let call = c.pair-call.result.0 in
    let below = c.loop-below.below in
    let m = below - (call + 1) in
    let now = c.loop-below.debug in
    let so = c.is_apart-so.result in
    let judged = c.judge_if-last in
    let at : below ≡ (call + 1) + m = omega (arith, c.loop-below.auto.below) in
    let next : m + 1 ≡ (below + 1) - (call + 1) = omega (arith, c.loop-below.auto.below) in
    let is = c.is_apart-so.ensures ∙ ap (is_left_out now parents pairs) at in
    let w = c.loop-below.invariant.were in
    record {
      were = subst (λ n. WereJudged old judged.new.debug parents pairs call n judged.result) next (next_judged w so is judged.new.debug judged.result
          (judged.ensures.search ∙ ap (λ n. if so then search_with now (Judged n Right) else now) at) judged.ensures.number);
      not_fallen = omega (arith, c.loop-below.invariant.not_fallen, judged.ensures.not_fallen);
      cost = subst (λ n. judged.new.steps ≤ c.args.steps.now + steps_on old call + steps_on_all old (left_out old parents pairs call n)) next
          (next_steps w so is (c.args.steps.now + steps_on old call) c.loop-below.steps judged.new.steps c.loop-below.invariant.cost
          (subst (λ n. judged.new.steps ≤ c.loop-below.steps + (if so then steps_on now n else 0)) at judged.ensures.cost));
    }

pub returns-clause-answer : goal.returns-clause-answer
returns-clause-answer g c =
    let rows = c.args.calls.now.calls in
    let pairs = c.args.slice.now.pairs in
    let call = c.pair-call.result.0 in
    let l = last_inside rows c.are_numbered.ensures.numbered call c.call-row.result.now c.call-row.ensures.found in
    let ends = c.loop-below.auto.below-end (omega (arith, l.0)) in
    let last = last_there rows call c.call-row.result.now c.call-row.ensures.found in
    all_judged c.args.debug.now c.loop-below.debug rows pairs call (c.loop-below.below - (call + 1)) c.judge_call-first.result c.loop-below.last
    (sliced_is pairs c.pair-call.result c.pair-call.ensures.found)
    (let z : c.loop-below.below - (call + 1) ≡ slice_index (lasts_of rows) call - call = omega (arith, ends, c.loop-below-test.false, last) in z)
    c.judge_call-first.ensures.number
    c.loop-below.invariant.were
    (let book = ap (λ (b : Answers). length b.entries) c.book.ensures in
    omega (arith, book, c.if-entries-count-gt-MOST_ENTRIES.false, c.count_apart-count.ensures.many, c.entries.ensures.number))

pub returns-clause-buggy_stays : goal.returns-clause-buggy_stays
returns-clause-buggy_stays g c =
    buggy_stays c.wrong_outputs_narrow.ensures.after_answers c.args.calls.now.calls c.args.slice.now.pairs c.args.debug.now c.loop-below.debug
    c.are_numbered.ensures.numbered c.requires.those_calls (returns-clause-answer g c).0

pub returns-clause-not_fallen : goal.returns-clause-not_fallen
returns-clause-not_fallen g c = c.loop-below.invariant.not_fallen

pub returns-clause-cost : goal.returns-clause-cost
returns-clause-cost g c =
    let rows = c.args.calls.now.calls in
    let pairs = c.args.slice.now.pairs in
    let call = c.pair-call.result.0 in
    let l = last_inside rows c.are_numbered.ensures.numbered call c.call-row.result.now c.call-row.ensures.found in
    let ends = c.loop-below.auto.below-end (omega (arith, l.0)) in
    let last = last_there rows call c.call-row.result.now c.call-row.ensures.found in
    all_steps c.args.debug.now rows pairs call (c.loop-below.below - (call + 1)) c.args.steps.now c.loop-below.steps
    (sliced_is pairs c.pair-call.result c.pair-call.ensures.found)
    (let z : c.loop-below.below - (call + 1) ≡ slice_index (lasts_of rows) call - call = omega (arith, ends, c.loop-below-test.false, last) in z)
    c.loop-below.invariant.cost
