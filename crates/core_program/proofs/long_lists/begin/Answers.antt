use Rattle.core_program.proofs.LongLists.{begun_by}
use Rattle.core_program.proofs.long_lists.begin.Goals as goal
use Rattle.core_program.specs.Lists.{found_at}

pub returns-then-is_long : goal.returns-then-is_long
returns-then-is_long c = begun_by c.args.tables.now c.args.kind c.args.at c.args.lists.now.tails.items (found_at c.args.lists.now.found)
    c.requires.later c.set_tail.new.tails.items c.requires.inside c.set_tail.ensures
