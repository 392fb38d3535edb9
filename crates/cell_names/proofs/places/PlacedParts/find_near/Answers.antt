use Rattle.std.proofs.Common.{◌-◌, ◌∙◌, ap, get_or}
use Rattle.cell_names.proofs.PartsSplit.{found_near, none_near}
use Rattle.cell_names.proofs.places.PlacedParts.find_near.Goals as goal

pub returns-then-begun-eq0-clause-alike : goal.returns-then-begun-eq0-clause-alike
returns-then-begun-eq0-clause-alike c =
    none_near c.args.at c.places_left-more.result c.count_near-begun.result c.args.self.now c.deref-2.result.now (c.deref-2.ensures.value ∙ c.self.view_is)
    c.places_left-more.ensures.split c.if-begun-eq0.true

pub returns-clause-alike : goal.returns-clause-alike
returns-clause-alike c =
    found_near c.args.at c.places_left-more.result c.count_near-begun.result c.args.self.now c.deref-2.result.now c.index.result.now
    (c.deref-2.ensures.value ∙ c.self.view_is) c.places_left-more.ensures.split c.if-begun-eq0.false
    (c.index.ensures ∙ ap (λ l. get_or l (c.count_near-begun.result - 1) c.index.result.now) c.self.view_is)
