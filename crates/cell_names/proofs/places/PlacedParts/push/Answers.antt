use Rattle.std.proofs.Common.{◌++◌, ◌∙◌, ◌∷◌, [], ap, take}
use Rattle.cell_names.proofs.PartsSplit.{pushed}
use Rattle.cell_names.proofs.places.PlacedParts.push.Goals as goal
use Rattle.cell_names.specs.Places.{last_at}

pub returns : goal.returns
returns c = λ i at.
    (ap (last_at at) (c.in_ok-push.ensures.items ∙ ap (λ l. l ++ c.args.part ∷ [])
    (c.truncate.ensures.items ∙ ap (take c.count_near-before.result) (c.self.view_is)))
    ∙ pushed c.args.self.now c.deref.result.now c.from.result c.count_near-before.result c.args.part (c.deref.ensures.value ∙ c.self.view_is)
    c.from.ensures c.count_near-before.ensures at) i
