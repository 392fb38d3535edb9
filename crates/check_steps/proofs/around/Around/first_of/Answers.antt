use Rattle.std.proofs.Common.{◌∙◌, List, Some, ap, length}
use Rattle.check_steps.proofs.Books.{kept-first}
use Rattle.check_steps.proofs.around.Around.first_of.Goals as goal
use Rattle.check_steps.specs.{Around.first_around, Around.is_among, Around.latest, declared.regions.Frame.Frame}

pub returns-then-is_same : goal.returns-then-is_same
returns-then-is_same c =
    let a = c.self.inside in
    let regions = c.args.regions.now in
    c.latest.ensures ∙ ap (λ l. latest l regions) c.deref.ensures.value
    ∙ kept-first a.fits a.frames a.shadowed.items a.innermost.items a.at c.args.frame regions c.if-self.true c.self.invariant
    (c.is_same.ensures c.if-is_same.true)
    ∙ ap (λ (fs : List Frame). first_around (length fs) fs (is_among regions) (Some c.args.frame)) c.self.view_is
