use Rattle.std.proofs.Common.{subst}
use Rattle.check_steps.proofs.Books.{kept-falls}
use Rattle.check_steps.proofs.around.Around.is_ordered.Goals as goal
use Rattle.check_steps.specs.Around.{Falls}

pub returns : goal.returns
returns c = λ yes.
    let a = c.self.inside in
    subst Falls c.self.view_is (kept-falls a.fits a.frames a.shadowed.items a.innermost.items a.at yes c.self.invariant)
