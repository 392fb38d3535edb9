use Rattle.std.proofs.Common.{◌-◌, ◌∙◌, ap, get_or}
use Rattle.cell_names.proofs.PartsSplit.{found_by, none_by}
use Rattle.cell_names.proofs.places.PlacedParts.find.Goals as goal

pub returns-then-begun-eq0 : goal.returns-then-begun-eq0
returns-then-begun-eq0 c =
    none_by c.args.at c.args.self.now c.deref.result.now c.from.result c.count_before-begun.result (c.deref.ensures.value ∙ c.self.view_is) c.from.ensures
    c.count_before-begun.ensures c.if-begun-eq0.true

pub returns : goal.returns
returns c =
    found_by c.args.at c.args.self.now c.deref.result.now c.from.result c.count_before-begun.result c.index.result.now
    (c.deref.ensures.value ∙ c.self.view_is) c.from.ensures c.count_before-begun.ensures c.if-begun-eq0.false
    (c.index.ensures ∙ ap (λ l. get_or l (c.count_before-begun.result - 1) c.index.result.now) c.self.view_is)
