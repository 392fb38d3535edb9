use Rattle.check_steps.proofs.Books.{given-up, kept-pushed}
use Rattle.check_steps.proofs.around.Around.add.Goals as goal

pub invariant_of-self : goal.invariant_of-self
invariant_of-self c = let a = c.self.inside in given-up c.push.new.self a.shadowed.items a.innermost.items a.at

pub invariant_of-self-in_err-push-2 : goal.invariant_of-self-in_err-push-2
invariant_of-self-in_err-push-2 c = let a = c.self.inside in given-up c.push.new.self c.push-2.new.self.items a.innermost.items a.at

pub invariant_of-self-2 : goal.invariant_of-self-2
invariant_of-self-2 c =
    let a = c.self.inside in
    rw (c.in_ok-push.ensures.pushed, c.in_ok-push-2.ensures.items, c.kept_in-shadowed.ensures, c.deref.ensures.value)
    (kept-pushed c.goes_on-fits.result a.fits a.frames a.shadowed.items a.innermost.items a.at c.args.frame c.goes_on-fits.ensures.kept
    c.goes_on-fits.ensures.inside c.self.invariant)
