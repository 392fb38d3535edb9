use Rattle.std.proofs.Common.{if◌then◌else◌, ◌+◌, ◌∙◌, ◌≤◌, ap, length, subst, sym}
use Rattle.answer_book.specs.declared.entries.{Judgement.TheVariants.Right, What.TheVariants.Judged}
use Rattle.optimal_query.specs.Search.{search_with}
use Rattle.output_slice.proofs.left_out.judge_if.Goals as goal
use Rattle.output_slice.specs.LeftOut.{steps_on}

pub returns-then-not-so-clause-search : goal.returns-then-not-so-clause-search
returns-then-not-so-clause-search g c =
    let old = c.args.debug.now in
    sym (ap (λ b. if b then search_with old (Judged c.args.call Right) else old) c.if-not-so.true)

pub returns-then-not-so-clause-number : goal.returns-then-not-so-clause-number
returns-then-not-so-clause-number g c = sym (ap (λ b. if b then length c.args.debug.now.book.entries + 1 else c.args.last) c.if-not-so.true)

pub judge_call-requires-clause-room : goal.judge_call-requires-clause-room
judge_call-requires-clause-room g c = c.requires.room c.if-not-so.false

pub returns-clause-search : goal.returns-clause-search
returns-clause-search g c =
    let old = c.args.debug.now in
    c.judge_call.ensures.search ∙ sym (ap (λ b. if b then search_with old (Judged c.args.call Right) else old) c.if-not-so.false)

pub returns-clause-number : goal.returns-clause-number
returns-clause-number g c =
    c.judge_call.ensures.number ∙ sym (ap (λ b. if b then length c.args.debug.now.book.entries + 1 else c.args.last) c.if-not-so.false)

pub returns-clause-cost : goal.returns-clause-cost
returns-clause-cost g c =
    subst (λ b. c.judge_call.new.steps ≤ c.args.steps.now + (if b then steps_on c.args.debug.now c.args.call else 0)) (sym c.if-not-so.false)
    c.judge_call.ensures.cost
