use Rattle.std.proofs.Common.{◌∙◌, List, ap, is_some, sym}
use Rattle.check_steps.proofs.Books.{kept-around}
use Rattle.check_steps.proofs.around.Around.is_around.Goals as goal
use Rattle.check_steps.specs.{Around.is_around, Around.kept_in, declared.regions.Frame.Frame}

pub returns-then-is_same : goal.returns-then-is_same
returns-then-is_same c = λ yes.
    let a = c.self.inside in
    ap (λ (fs : List Frame). is_around fs c.args.frame c.args.region) (sym c.self.view_is)
    ∙ kept-around a.fits a.frames a.shadowed.items a.innermost.items a.at c.args.frame c.args.region c.if-self.true c.self.invariant
    (c.is_same.ensures c.if-is_same.true)
    (ap (λ l. is_some (kept_in l c.args.region)) (sym c.deref.ensures.value) ∙ ap is_some (sym c.kept_in.ensures) ∙ sym c.is_some.ensures ∙ yes)
