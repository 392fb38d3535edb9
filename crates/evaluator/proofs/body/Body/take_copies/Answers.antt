use Rattle.std.proofs.Common.{◌++◌, ◌∙◌, ap, option_to_list, sym}
use Rattle.evaluator.proofs.Arguments.{copies_pushed}
use Rattle.evaluator.proofs.body.Body.take_copies.Goals as goal
use Rattle.evaluator.specs.Rest.{below_top, first_of}

pub returns-in-Some-clause-result : goal.returns-in-Some-clause-result
returns-in-Some-clause-result c =
    sym (ap first_of (copies_pushed c.pop.new.self.items c.args.self.now.copies.items c.in-Some.copies
    (c.pop.ensures.items ∙ ap (λ o. c.pop.new.self.items ++ option_to_list o) c.in-Some.is)))

pub returns-in-Some-clause-copies : goal.returns-in-Some-clause-copies
returns-in-Some-clause-copies c =
    sym (ap below_top (copies_pushed c.pop.new.self.items c.args.self.now.copies.items c.in-Some.copies
    (c.pop.ensures.items ∙ ap (λ o. c.pop.new.self.items ++ option_to_list o) c.in-Some.is)))
