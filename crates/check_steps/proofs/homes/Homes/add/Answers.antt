use Rattle.std.proofs.Common.{◌∙◌, IsSome, ap, refl, subst}
use Rattle.check_steps.proofs.HomeLists.{among-last, among-more, homes-set}
use Rattle.check_steps.proofs.homes.Homes.add.Goals as goal
use Rattle.check_steps.specs.{Around.is_among, Homes.homes_of, Homes.regions_of}

pub returns-in_err-push-in-Some-clause-kept : goal.returns-in_err-push-in-Some-clause-kept
returns-in_err-push-in-Some-clause-kept g c = λ n r among.
    homes-set c.self.inside.regions.entries (c.get_mut.follows.lender c.push.new.self).entries c.args.number c.push.new.self
    ((c.get_mut.follows.holds c.push.new.self).3 (subst IsSome c.in-Some.ensures.value refl)).0
    (λ s e. ap (λ l. is_among l s) c.in_err-push-in-Some.ensures.items ∙ ap (λ o. is_among (regions_of o) s) c.in-Some.ensures.value ∙ e)
    n r (ap (λ l. is_among (homes_of l n) r) c.self.view_is ∙ among)

pub returns-in_ok-push-in-Some-clause-kept : goal.returns-in_ok-push-in-Some-clause-kept
returns-in_ok-push-in-Some-clause-kept g c = λ n r among.
    homes-set c.self.inside.regions.entries (c.get_mut.follows.lender c.push.new.self).entries c.args.number c.push.new.self
    ((c.get_mut.follows.holds c.push.new.self).3 (subst IsSome c.in-Some.ensures.value refl)).0
    (λ s e. ap (λ l. is_among l s) c.in_ok-push-in-Some.ensures.items ∙ among-more c.in-Some.regions.now.items c.args.region s
    (ap (λ o. is_among (regions_of o) s) c.in-Some.ensures.value ∙ e))
    n r (ap (λ l. is_among (homes_of l n) r) c.self.view_is ∙ among)

pub returns-in_ok-push-in-Some-clause-added : goal.returns-in_ok-push-in-Some-clause-added
returns-in_ok-push-in-Some-clause-added g c =
    ap (λ o. is_among (regions_of o) c.args.region) ((c.get_mut.follows.holds c.push.new.self).3 (subst IsSome c.in-Some.ensures.value refl)).1
    ∙ ap (λ l. is_among l c.args.region) c.in_ok-push-in-Some.ensures.items ∙ among-last c.in-Some.regions.now.items c.args.region
