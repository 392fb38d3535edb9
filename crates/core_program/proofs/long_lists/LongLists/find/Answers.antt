use Rattle.std.proofs.{Common.◌∙◌, Common.ap, lemmas.Int.to_z-of_z}
use mir.Syntax.{w64}
use Rattle.core_program.proofs.LongLists.{told_by}
use Rattle.core_program.proofs.long_lists.LongLists.find.Goals as goal
use Rattle.core_program.specs.Lists.{found_at, tail_at}

pub returns-else-tail-eq-LIST_END : goal.returns-else-tail-eq-LIST_END
returns-else-tail-eq-LIST_END c = told_by c.args.tables.now c.args.kind c.args.self.now.tails.items (found_at c.args.self.now.found) c.requires.known
    c.args.first c.tail_at-tail.result c.args.wanted c.find_long.result
    (c.tail_at-tail.ensures ∙ ap (λ ts. tail_at ts c.args.first) c.deref.ensures.value) c.if-tail-eq-LIST_END.false
    (rw (to_z-of_z w64 c.args.wanted c.ranges.wanted) at c.find_long.ensures)
