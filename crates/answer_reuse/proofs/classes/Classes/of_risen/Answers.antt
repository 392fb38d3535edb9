use Rattle.std.proofs.Common.{◌∙◌, ap, arith}
use Rattle.answer_reuse.proofs.classes.Classes.of_risen.Goals as goal
use Rattle.answer_reuse.specs.Kept.{each_itself}

pub apart-requires : goal.apart-requires
apart-requires c = record { few = omega (arith, c.requires.few, c.len.ensures) }

pub join-requires : goal.join-requires
join-requires c = record { calls = c.in_ok-classes.ensures ∙ ap each_itself c.len.ensures; keys = c.requires.keys }

pub returns-then-join : goal.returns-then-join
returns-then-join c =
    let sorted = c.join.ensures.sorted c.if-join.true in
    record { keys = c.args.keys.now; sorted = sorted; joined = c.join.ensures.joined sorted }
