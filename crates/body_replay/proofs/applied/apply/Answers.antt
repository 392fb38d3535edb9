use Rattle.std.{proofs.Common.◌<◌, proofs.Common.subst, proofs.Common.sym, specs.List.All}
use Rattle.body_replay.proofs.ChangesOneByOne.{below_listed}
use Rattle.body_replay.proofs.applied.apply.Goals as goal

pub apply_effect-requires-clause-addresses : goal.apply_effect-requires-clause-addresses
apply_effect-requires-clause-addresses g c = subst (λ xs. All (λ x. x.0 < 1048576) xs) (sym c.in_ok-found.ensures.changes) (below_listed _)
