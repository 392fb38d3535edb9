use Rattle.std.proofs.Common.{◌∙◌, ap, map, sym}
use Rattle.optimal_query.proofs.markings.Markings.set_all.Goals as goal
use Rattle.optimal_query.specs.Markings.{askable_flag}

pub look_up-requires-clause-were : goal.look_up-requires-clause-were
look_up-requires-clause-were g c = rw (c.deref_mut.ensures.value, c.self.invariant.same, c.self.view_is) c.requires.were

pub look_up-requires-clause-flags : goal.look_up-requires-clause-flags
look_up-requires-clause-flags g c =
    rw (c.deref_mut.ensures.value, c.deref_mut-2.ensures.value) (c.self.invariant.flagged ∙ sym (ap (map askable_flag) c.self.invariant.same))
