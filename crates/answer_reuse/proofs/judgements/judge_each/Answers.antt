use Rattle.std.proofs.Common.{◌+◌, ◌<◌, ◌==◌, ◌∙◌, ◌≡◌, ◌≤◌, ap, arith, filter, length, refl, slice_index, sym, true}
use Rattle.answer_book.specs.Numbers.{numbers_below}
use Rattle.answer_reuse.proofs.{NumbersPassing.count_passing, OneByOne.judging_entries, OneByOne.judging_more, OneByOne.judging_routine}
use Rattle.answer_reuse.proofs.judgements.judge_each.Goals as goal
use Rattle.answer_reuse.specs.Shared.{judged_each, one_steps, search_with_each, search_with_one, shared_steps}

pub calls-init : goal.calls-init
calls-init g c = record { judged = refl; not_fallen = omega arith; cost = omega arith }

pub judge_if-requires-clause-a_call : goal.judge_if-requires-clause-a_call
judge_if-requires-clause-a_call g c =
    let same = ap length (judging_routine c.calls.invariant) in
    let before = c.calls-test.true in
    let many = c.requires.those_calls in
    let len = c.len-call-end.ensures.number in
    omega arith

pub judge_if-requires-clause-room : goal.judge_if-requires-clause-room
judge_if-requires-clause-room g c is =
    let have = judging_entries c.calls.invariant in
    let before : c.calls.call < length c.args.classes.now = omega (arith, c.calls-test.true, c.len-call-end.ensures.number) in
    let more = count_passing (λ other. slice_index c.args.classes.now other == c.args.least) c.calls.call (length c.args.classes.now) before
    (sym c.is_of.ensures ∙ is) in
    let room = c.requires.room in
    omega arith

pub calls-preserved : goal.calls-preserved
calls-preserved g c = judging_more c.calls.invariant _ _
    (c.judge_if.ensures.judged ∙ ap (λ b. search_with_one c.calls.debug b c.calls.call c.args.judgement) c.is_of.ensures)
    c.judge_if.ensures.not_fallen
    (let e = ap (λ b. one_steps c.calls.debug.depth b c.calls.call) c.is_of.ensures in omega (arith, e, c.judge_if.ensures.cost))

pub returns-clause-judged : goal.returns-clause-judged
returns-clause-judged g c =
    let end : c.calls.call ≡ length c.args.classes.now = omega (arith, c.calls-test.false, c.calls.auto.call-end, c.len-call-end.ensures.number) in
    c.calls.invariant.judged ∙ ap (λ n. search_with_each c.args.debug.now
    (judged_each c.args.judgement (filter (λ other. slice_index c.args.classes.now other == c.args.least) (numbers_below n)))) end

pub returns-clause-not_fallen : goal.returns-clause-not_fallen
returns-clause-not_fallen g c = c.calls.invariant.not_fallen

pub returns-clause-cost : goal.returns-clause-cost
returns-clause-cost g c =
    let end : c.calls.call ≡ length c.args.classes.now = omega (arith, c.calls-test.false, c.calls.auto.call-end, c.len-call-end.ensures.number) in
    let same = ap (λ n. shared_steps c.args.debug.now.depth (filter (λ other. slice_index c.args.classes.now other == c.args.least) (numbers_below n))) end in
    omega (arith, same, c.calls.invariant.cost)
