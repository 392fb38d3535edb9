use Rattle.std.proofs.Common.{◌∙◌, ap}
use Rattle.core_program.proofs.LongLists.{joined_by}
use Rattle.core_program.proofs.long_lists.join.Goals as goal
use Rattle.core_program.specs.Lists.{found_at, tail_at}

pub returns-in_ok-go_before : goal.returns-in_ok-go_before
returns-in_ok-go_before c = joined_by c.args.tables.now c.args.kind c.args.at c.args.lists.now.tails.items (found_at c.args.lists.now.found)
    c.requires.later c.go_before.new.lists.tails.items (found_at c.go_before.new.lists.found) c.args.item c.tail_at-tail.result
    c.requires.inside c.requires.there (c.tail_at-tail.ensures ∙ ap (λ ts. tail_at ts c.args.item.next) c.deref.ensures.value)
    c.if-tail-eq-LIST_END.false c.in_ok-go_before.ensures.found c.in_ok-go_before.ensures.tails
