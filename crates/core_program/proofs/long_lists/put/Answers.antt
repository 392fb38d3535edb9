use Rattle.std.proofs.lemmas.Int.{to_z-of_z}
use mir.Syntax.{w64}
use Rattle.core_program.proofs.LongLists.{one_put}
use Rattle.core_program.proofs.long_lists.put.Goals as goal

pub returns : goal.returns
returns c = one_put c.args.found.now c.insert.new.self c.args.tail c.args.key c.args.row
    (rw (to_z-of_z w64 c.args.key c.ranges.key) at c.in_ok-insert.ensures.updates)
