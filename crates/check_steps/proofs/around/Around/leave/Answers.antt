use Rattle.std.proofs.Common.{rules, subst}
use Rattle.check_steps.proofs.Books.{kept-left}
use Rattle.check_steps.proofs.around.Around.leave.Goals as goal
use Rattle.check_steps.specs.Around.{IsKept}

pub invariant_of-self : goal.invariant_of-self
invariant_of-self c =
    let a = c.self.inside in
    rw (c.keep.ensures, c.kept_in-shadowed.ensures, c.deref.ensures.value)
    (kept-left a.fits a.frames a.shadowed.items a.innermost.items c.in-Some.number c.frame-frame.result c.if-self.true
    (subst (λ o. IsKept a.fits a.frames a.shadowed.items a.innermost.items o) c.in-Some.is c.self.invariant)
    c.frame-frame.ensures (search rules))
