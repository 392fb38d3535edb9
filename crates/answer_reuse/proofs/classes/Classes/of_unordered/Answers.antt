use Rattle.std.proofs.Common.{◌∙◌, ap, arith, subst, sym}
use Rattle.answer_reuse.proofs.classes.Classes.of_unordered.Goals as goal
use Rattle.answer_reuse.specs.{Kept.each_itself, Sorting.AreSorted}

pub apart-requires : goal.apart-requires
apart-requires c = record { few = omega (arith, c.requires.few, c.len.ensures) }

pub join-rise-requires : goal.join-rise-requires
join-rise-requires c = record {
  calls = c.in_ok-classes.ensures ∙ ap each_itself c.len.ensures;
  keys = (subst (AreSorted c.args.run.now) (sym c.deref.ensures.value) c.in_ok-keys.ensures).keys';
}

pub returns : goal.returns
returns c =
    let sorted = subst (AreSorted c.args.run.now) (sym c.deref.ensures.value) c.in_ok-keys.ensures in
    record { keys = c.deref.result.now; sorted = sorted; joined = c.join-rise.ensures.joined sorted }
